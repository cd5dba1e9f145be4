use Rattle.std.proofs.Common.{◌≡◌}
use Rattle.table.proofs.SettlingBuses.{SettlingBuses}
use Rattle.table.proofs.buses.settle_buses.Given as goal

abbrev pub invariant-loop-bus : goal.invariant-loop-bus
invariant-loop-bus g l =
    (g.S.Store.room l.store ≡ g.S.Store.room l.initial.store) ×
    SettlingBuses (g.S.View.means l.initial.store) (g.S.View.means l.store) (g.R.Rule.limits l.rule) l.bus

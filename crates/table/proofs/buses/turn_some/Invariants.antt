use Rattle.std.proofs.Common.{◌≡◌}
use Rattle.table.proofs.TurningSome.{TurningSome}
use Rattle.table.proofs.buses.turn_some.Given as goal

abbrev pub invariant-loop-post : goal.invariant-loop-post
invariant-loop-post g l =
    (g.S.Store.room l.store ≡ g.S.Store.room l.initial.store) ×
    TurningSome (g.S.View.means l.initial.store) (g.S.View.means l.store) l.bus l.side l.count l.left l.post

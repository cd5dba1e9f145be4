use Rattle.std.proofs.Common.{◌≡◌}
use Rattle.table.specs.Evening.{unevenness}
use Rattle.table.proofs.EvenSides.{Evening}
use Rattle.table.proofs.evening.settle.Given as goal

abbrev pub invariant-loop : goal.invariant-loop
invariant-loop g l =
    (g.S.Store.room l.store ≡ g.S.Store.room l.initial.store) ×
    Evening (g.S.View.means l.initial.store) (g.S.View.means l.store) (g.R.Rule.limits l.rule)

abbrev pub decreases-loop : goal.decreases-loop
decreases-loop g l = unevenness (g.S.View.means l.store) (g.R.Rule.limits l.rule)

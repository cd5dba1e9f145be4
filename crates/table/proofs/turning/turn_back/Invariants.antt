use Rattle.std.proofs.Common.{◌≡◌}
use Rattle.table.proofs.Trails.{TurningBack}
use Rattle.table.proofs.turning.turn_back.Given as goal

abbrev pub invariant-loop-at : goal.invariant-loop-at
invariant-loop-at g l =
    (g.S.Store.room l.store ≡ g.S.Store.room l.initial.store) ×
    TurningBack (g.S.View.means l.initial.store) l.queue l.place (g.S.View.means l.store) l.at

abbrev pub decreases-loop-at : goal.decreases-loop-at
decreases-loop-at g l = l.at

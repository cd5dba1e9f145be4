use Rattle.table.proofs.Choosing.{NoneBelow}
use Rattle.table.proofs.additions.lowest.Given as goal

abbrev pub invariant-loop-level : goal.invariant-loop-level
invariant-loop-level g l = NoneBelow (g.G.LevelGoal.sought l.goal) l.queue l.level-counter

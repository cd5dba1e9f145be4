use Rattle.std.proofs.Common.{◌≡◌, ◌≤◌}
use Rattle.table.proofs.Descending.{Descending}
use Rattle.table.proofs.levels.descend.Given as goal

abbrev pub invariant-loop-level : goal.invariant-loop-level
invariant-loop-level g l =
    (l.search.net.now ≡ l.initial.search.net.now) × (l.search.marks.ghost_name ≡ l.initial.search.marks.ghost_name) × (l.low ≤ l.level) ×
    Descending (g.S.View.means l.initial.search.net.now.0.0.now) (g.R.Rule.limits l.rule) (g.G.LevelGoal.sought l.goal) l.level l.search.queue l.search.marks.now

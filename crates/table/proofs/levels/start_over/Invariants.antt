use Rattle.std.proofs.Common.{◌≡◌}
use Rattle.table.proofs.Descending.{OverStarting}
use Rattle.table.proofs.levels.start_over.Given as goal

abbrev pub invariant-loop-post : goal.invariant-loop-post
invariant-loop-post g l =
    (l.search.net.now ≡ l.initial.search.net.now) × (l.search.marks.ghost_name ≡ l.initial.search.marks.ghost_name) ×
    OverStarting (g.S.View.means l.initial.search.net.now.0.0.now) (g.R.Rule.limits l.rule) l.level (g.G.Goal.wanted l.goal) l.initial.search.queue l.search.queue l.search.marks.now l.post

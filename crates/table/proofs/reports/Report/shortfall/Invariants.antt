use Rattle.std.proofs.Common.{◌≡◌, ◌-◌, ◌*◌, ◌≤◌}
use Rattle.blocks.specs.Sums.{sum}
use Rattle.blocks.specs.Sides.{post_load}
use Rattle.table.specs.Yards.{yard_of, sides_of}
use Rattle.table.proofs.reports.Report.shortfall.Given as goal

abbrev pub invariant-loop-post : goal.invariant-loop-post
invariant-loop-post g l =
    (l.total ≡ sum l.post (λ p. post_load (yard_of (g.S.View.means l.self.view.now)) (sides_of (g.S.View.means l.self.view.now)) p - (g.R.Rule.limits l.self.rule.now).post l.level p)) ×
    (l.total ≤ 65535 * l.post)

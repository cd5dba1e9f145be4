use Rattle.std.proofs.Common.{◌≡◌, ◌-◌, ◌<◌, sym, ap, ◌∙◌, arith}
use Rattle.blocks.specs.Sums.{sum}
use Rattle.blocks.specs.Sides.{post_load}
use Rattle.blocks.proofs.Sums.{sum_empty, sum_more}
use Rattle.blocks.proofs.Yards.{sides_tell_shortfall}
use Rattle.table.specs.Yards.{yard_of, sides_of}
use Rattle.table.proofs.Descending.{sized}
use Rattle.table.proofs.reports.Report.shortfall.Goals as goal

pub loop-post-init : goal.loop-post-init
loop-post-init g c = (sym (sum_empty _), omega arith)

pub loop-post-preserved : goal.loop-post-preserved
loop-post-preserved g c =
    let lp : c.loop-post.post < (g.S.View.means c.args.self.now.view.now).posts = omega (arith, c.posts-post-end.ensures) in
    let s = sum_more c.loop-post.post (λ p. post_load (yard_of (g.S.View.means c.args.self.now.view.now)) (sides_of (g.S.View.means c.args.self.now.view.now)) p - (g.R.Rule.limits c.args.self.now.rule.now).post c.args.level p) in
    let l = c.loads-loads.ensures c.loop-post.post lp in (
      omega (arith, s, l, c.loop-post.invariant.0, c.saturating_sub-total.ensures, c.from.ensures, c.post_limit.ensures),
      omega (arith, c.loop-post.invariant.1, c.saturating_sub-total.ensures, c.from.ensures, c.loop-post-test.element_fits.fits),
    )

pub returns : goal.returns
returns g c =
    let m = g.S.View.means c.args.self.now.view.now in
    let L = g.R.Rule.limits c.args.self.now.rule.now in
    let e : c.loop-post.post ≡ (g.S.View.means c.args.self.now.view.now).posts = omega (arith, c.posts-post-end.ensures) in
    c.loop-post.invariant.0
    ∙ ap (λ n. sum n (λ p. post_load (yard_of (g.S.View.means c.args.self.now.view.now)) (sides_of (g.S.View.means c.args.self.now.view.now)) p - (g.R.Rule.limits c.args.self.now.rule.now).post c.args.level p)) e
    ∙ sym (sides_tell_shortfall (yard_of m) L (sides_of m) (g.met.R.Rule.lawful c.args.self.now.rule.now).rises (sized m (g.met.S.View.bounded c.args.self.now.view.now)) c.args.self.now.even c.args.level c.requires)

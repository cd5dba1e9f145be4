use Rattle.std.proofs.Common.{ℕ, List, subst, rules}
use Rattle.table.specs.Reports.{BlockMarked}
use Rattle.table.proofs.EvenSides.{right_within, even_right}
use Rattle.table.proofs.Ranking.{block_marked}
use Rattle.table.proofs.reports.Report.mark_block.Goals as goal

pub descend-requires-clause-buses : goal.descend-requires-clause-buses
descend-requires-clause-buses g c = rw c.over-search.ensures.over.0 (right_within (g.S.View.means c.args.self.now.view.now) (g.R.Rule.limits c.args.self.now.rule.now) (even_right (g.S.View.means c.args.self.now.view.now) (g.R.Rule.limits c.args.self.now.rule.now) c.args.self.now.even))

pub returns : goal.returns
returns g c =
    let d = block_marked _ _ (g.met.R.Rule.lawful c.args.self.now.rule.now).rises (g.met.S.View.bounded c.args.self.now.view.now) c.args.self.now.even _ c.requires.level _ _ _ (rw c.over-search.ensures.over.0 at c.descend.ensures.descended) in
    subst (λ (xs : List ℕ). BlockMarked (g.S.View.means c.args.self.now.view.now) (g.R.Rule.limits c.args.self.now.rule.now) c.args.level xs) (search rules) d

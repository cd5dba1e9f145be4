use Rattle.std.proofs.Common.{◌≡◌, ◌<◌, pos, sym, refl, ◌∙◌, arith, w16, to_z, rules}
use Rattle.std.proofs.lemmas.Int.{ints}
use Rattle.table.proofs.EvenSides.{right_within, even_right}
use Rattle.table.proofs.Ranking.{ranked_none, ranked_some}
use Rattle.table.proofs.reports.Report.rank.Goals as goal

pub descend-requires-clause-buses : goal.descend-requires-clause-buses
descend-requires-clause-buses g c = rw c.over-search.ensures.over.0 (right_within (g.S.View.means c.args.self.now.view.now) (g.R.Rule.limits c.args.self.now.rule.now) (even_right (g.S.View.means c.args.self.now.view.now) (g.R.Rule.limits c.args.self.now.rule.now) c.args.self.now.even))

pub overflow_cast-result : goal.overflow_cast-result
overflow_cast-result g c =
    let h : c.in-Some.level < 256 = (c.in-Some.ensures.descended.finds c.in-Some.level c.in-Some.field-0-1 refl).1 in
    search rules

pub returns-in-Some : goal.returns-in-Some
returns-in-Some g c =
    let h : c.in-Some.level < 256 = (c.in-Some.ensures.descended.finds c.in-Some.level c.in-Some.field-0-1 refl).1 in
    let e : to_z w16 c.in-Some.level ≡ pos c.in-Some.level = omega (arith, ints) in
    e ∙ sym (ranked_some _ _ (g.met.R.Rule.lawful c.args.self.now.rule.now).rises (g.met.S.View.bounded c.args.self.now.view.now) c.args.self.now.even _ c.requires.node _ _ _ _ (rw c.over-search.ensures.over.0 at c.in-Some.ensures.descended))

pub returns-in-None : goal.returns-in-None
returns-in-None g c =
    sym (ranked_none _ _ (g.met.R.Rule.lawful c.args.self.now.rule.now).rises (g.met.S.View.bounded c.args.self.now.view.now) c.args.self.now.even _ c.requires.node _ _ (rw c.over-search.ensures.over.0 at c.in-None.ensures.descended))

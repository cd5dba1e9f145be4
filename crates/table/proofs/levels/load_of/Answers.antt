use Rattle.std.proofs.Common.{ℕ, ◌&&◌, rules}
use borrow.Author.Tests.{tests}
use Rattle.stores.specs.Meaning.{stands, by_post}
use Rattle.table.proofs.Counting.{sums_fit, summed, carried_stands}
use Rattle.table.proofs.levels.load_of.Goals as goal

pub sum-requires-clause-fits : goal.sum-requires-clause-fits
sum-requires-clause-fits g c =
    let at = λ (b : ℕ). (g.S.View.means c.args.view.now).standing b c.args.post in
    sums_fit (λ b. stands (at b) && by_post (at b)) c.map.ensures.runs (λ x r f k. search (rules, tests, carried_stands)) c.buses.type_inv

pub returns : goal.returns
returns g c =
    let at = λ (b : ℕ). (g.S.View.means c.args.view.now).standing b c.args.post in
    summed (λ b. stands (at b) && by_post (at b)) c.map.ensures.runs (λ x r f k. search (rules, tests, carried_stands)) c.buses.ensures (c.sum.ensures.runs tt)

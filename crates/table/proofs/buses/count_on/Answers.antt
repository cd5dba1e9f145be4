use Rattle.std.proofs.Common.{ℕ, rules, arith}
use borrow.Author.Tests.{tests}
use Rattle.table.specs.Buses.{is_on}
use Rattle.table.proofs.Counting.{sums_fit, sum_few, summed}
use Rattle.table.proofs.buses.count_on.Goals as goal

pub sum-requires-clause-fits : goal.sum-requires-clause-fits
sum-requires-clause-fits g c =
    let test = λ (p : ℕ). is_on c.args.side ((g.S.View.means c.args.view.now).standing c.args.bus p) in
    sums_fit test c.map.ensures.runs (λ x r f k. search (rules, tests)) c.posts.type_inv

pub returns-clause-count : goal.returns-clause-count
returns-clause-count g c =
    let test = λ (p : ℕ). is_on c.args.side ((g.S.View.means c.args.view.now).standing c.args.bus p) in
    summed test c.map.ensures.runs (λ x r f k. search (rules, tests)) c.posts.ensures (c.sum.ensures.runs tt)

pub returns-clause-few : goal.returns-clause-few
returns-clause-few g c =
    let test = λ (p : ℕ). is_on c.args.side ((g.S.View.means c.args.view.now).standing c.args.bus p) in
    let few = sum_few test c.map.ensures.runs (λ x r f k. search (rules, tests)) (c.sum.ensures.runs tt) in
    omega (arith, few, c.posts.ensures, (g.met.S.View.bounded c.args.view.now).few_posts)

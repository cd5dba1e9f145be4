use Rattle.std.proofs.Common.{◌≡◌, ◌<◌, ℕ, rules, arith}
use Rattle.std.proofs.lemmas.Iterator.{first_from_Range}
use borrow.Author.Tests.{tests}
use Rattle.rules.specs.Rated.{step, word}
use Rattle.rules.proofs.Rated.check.Goals as goal

pub returns : goal.returns
returns g c =
    let rated = c.args.self.now in
    let stepless = λ (p : ℕ). step (word (g.S.Sheet.bytes rated.sheet) rated.buses p) ≡ 0 in
    let first = first_from_Range _ _ _ _ stepless (λ p. p < rated.posts → stepless p → ⊥)
    c.find.ensures.ran (λ x q k. search (rules, tests)) (λ x q k. search (rules, tests)) in
    grind arith

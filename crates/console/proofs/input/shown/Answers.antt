use Rattle.std.proofs.Common.{◌≡◌, ◌≢◌, arith, rules}
use Rattle.std.proofs.lemmas.Iterator.{IsFirst-from_position, YieldsList-from_slice}
use borrow.Author.Tests.{tests}
use Rattle.console.proofs.Zeros.{shown_front, shown_whole}
use Rattle.console.proofs.input.shown.Goals as goal

pub returns-in-Some : goal.returns-in-Some
returns-in-Some c =
    let first = IsFirst-from_position _ _ _ (λ b. b ≡ 0) (λ b. b ≢ 0) c.in-Some.ensures.ran (YieldsList-from_slice c.args.field.now c.iter.ensures.rest) (λ b q k. search (rules, tests)) (λ b q k. search (rules, tests)) in
    search (rules, shown_front)

pub returns-in-None : goal.returns-in-None
returns-in-None c =
    let none = IsFirst-from_position _ _ _ (λ b. b ≡ 0) (λ b. b ≢ 0) c.in-None.ensures.ran (YieldsList-from_slice c.args.field.now c.iter.ensures.rest) (λ b q k. search (rules, tests)) (λ b q k. search (rules, tests)) in
    shown_whole c.args.field.now (λ k w. none k 0 (omega arith) w)

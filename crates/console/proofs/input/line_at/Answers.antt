use Rattle.std.proofs.Common.{◌≡◌, ◌≢◌, arith, rules}
use Rattle.std.proofs.lemmas.Iterator.{IsFirst-from_position, YieldsList-from_slice}
use borrow.Author.Tests.{tests}
use Rattle.console.proofs.Lines.{line_to, line_to_end, no_line}
use Rattle.console.proofs.input.line_at.Goals as goal

pub returns-in-Some : goal.returns-in-Some
returns-in-Some c =
    let first = IsFirst-from_position _ _ _ (λ b. b ≡ 10) (λ b. b ≢ 10) c.in-Some.ensures.ran (YieldsList-from_slice c.in_ok-rest.rest.now c.iter.ensures.rest) (λ b q k. search (rules, tests)) (λ b q k. search (rules, tests)) in
    let got = c.in_ok-rest.ensures.lookup.0 in
    line_to c.args.input.now c.in_ok-rest.rest.now c.args.from c.min-end.result c.min-end.ensures got.0 got.2 c.in-Some.len first.0 (first.1 0) (λ k w. first.2 k 0 (omega arith) w)

pub returns-in-None : goal.returns-in-None
returns-in-None c =
    let none = IsFirst-from_position _ _ _ (λ b. b ≡ 10) (λ b. b ≢ 10) c.in-None.ensures.ran (YieldsList-from_slice c.in_ok-rest.rest.now c.iter.ensures.rest) (λ b q k. search (rules, tests)) (λ b q k. search (rules, tests)) in
    let got = c.in_ok-rest.ensures.lookup.0 in
    line_to_end c.args.input.now c.in_ok-rest.rest.now c.args.from c.min-end.result c.min-end.ensures got.0 got.2 (λ k w. none k 0 (omega arith) w) (omega arith) (omega arith)

pub returns-in-None-2 : goal.returns-in-None-2
returns-in-None-2 c =
    let none = IsFirst-from_position _ _ _ (λ b. b ≡ 10) (λ b. b ≢ 10) c.in-None.ensures.ran (YieldsList-from_slice c.in_ok-rest.rest.now c.iter.ensures.rest) (λ b q k. search (rules, tests)) (λ b q k. search (rules, tests)) in
    let got = c.in_ok-rest.ensures.lookup.0 in
    no_line c.args.input.now c.in_ok-rest.rest.now c.args.from c.min-end.result c.min-end.ensures got.0 got.2 (λ k w. none k 0 (omega arith) w) (λ s. grind arith)

use Rattle.std.proofs.Common.{get_or, arith, rules}
use Rattle.std.specs.Int.{IsInRange}
use Rattle.console.proofs.Numerals.{value_next, weighed_more, all_weighed}
use Rattle.console.proofs.numbers.value.Goals as goal

pub returns-in_err-checked_mul : goal.returns-in_err-checked_mul
returns-in_err-checked_mul c =
    let d : IsInRange 48 57 (get_or c.args.digits.now c.loop-byte.byte-index 0) = search rules in
    rw c.from_residual.ensures (λ all. omega (arith, all.1, c.in_err-checked_mul.ensures, weighed_more c.args.digits.now c.loop-byte.byte-index c.loop-byte.value (omega arith) c.loop-byte.invariant.0 c.loop-byte.invariant.1 d all.0))

pub returns-in_err-value : goal.returns-in_err-value
returns-in_err-value c =
    let d : IsInRange 48 57 (get_or c.args.digits.now c.loop-byte.byte-index 0) = search rules in
    rw c.from_residual-in_err-value.ensures (λ all. grind (arith, all.1, weighed_more c.args.digits.now c.loop-byte.byte-index c.loop-byte.value (omega arith) c.loop-byte.invariant.0 c.loop-byte.invariant.1 d all.0))

pub loop-byte-preserved : goal.loop-byte-preserved
loop-byte-preserved c =
    let d : IsInRange 48 57 (get_or c.args.digits.now c.loop-byte.byte-index 0) = search rules in
    let next = value_next c.args.digits.now c.loop-byte.byte-index c.loop-byte.value (omega arith) c.loop-byte.invariant.0 c.loop-byte.invariant.1 d in
    (next.0, grind (arith, next.1), grind arith)

pub returns : goal.returns
returns c =
    let all = all_weighed c.args.digits.now c.loop-byte.byte-index c.loop-byte.value (omega arith) c.loop-byte.invariant.0 c.loop-byte.invariant.1 in
    ((all.0, omega (arith, all.1)), all.1)

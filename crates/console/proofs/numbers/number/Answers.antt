use Rattle.std.proofs.Common.{arith, eqb-true}
use Rattle.console.proofs.Numerals.{not_one, read_number}
use Rattle.console.proofs.numbers.number.Goals as goal

pub returns-then-is_empty : goal.returns-then-is_empty
returns-then-is_empty c = not_one c.args.digits.now (λ n w. grind (arith, eqb-true, w.some, w.leading))

pub returns : goal.returns
returns c = rw c.ok_or.ensures.value (read_number c.args.digits.now c.value.result c.value.ensures (grind arith) (λ e. grind arith))

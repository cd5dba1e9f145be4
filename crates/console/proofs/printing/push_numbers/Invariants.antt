use Rattle.std.proofs.Common.{◌≡◌, ◌++◌, take}
use Rattle.console.specs.Texts.{spaced}
use Rattle.console.proofs.printing.push_numbers.Given as goal

abbrev pub invariant-loop-number : goal.invariant-loop-number
invariant-loop-number l = l.text.bytes ≡ l.initial.text.bytes ++ spaced (take l.number-index l.numbers)

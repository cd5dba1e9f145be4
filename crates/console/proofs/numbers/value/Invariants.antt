use Rattle.std.proofs.Common.{◌≡◌, ◌≤◌, take}
use Rattle.std.specs.Str.Parse.{AllDigits}
use Rattle.std.specs.Str.Parse as reads
use Rattle.console.proofs.numbers.value.Given as goal

abbrev pub invariant-loop-byte : goal.invariant-loop-byte
invariant-loop-byte l = AllDigits 10 (take l.byte-index l.digits) × (l.value ≡ reads.digits_value 10 (take l.byte-index l.digits)) × (l.value ≤ 65535)

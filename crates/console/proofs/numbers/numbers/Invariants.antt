use Rattle.std.proofs.Common.{◌≡◌, length, take, drop}
use Rattle.console.proofs.Cuts.{parts, left, Numbers}
use Rattle.console.proofs.numbers.numbers.Given as goal

abbrev pub invariant-loop-place : goal.invariant-loop-place
invariant-loop-place g l =
    (drop l.place-index (parts l.fields) ≡ left l.rest) × Numbers (take l.place-index (parts l.fields)) (take l.place-index l.place-items) × (length l.place-items ≡ g.row.N)

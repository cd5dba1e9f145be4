use Rattle.std.specs.Char.{encode_utf8}
use Rattle.std.proofs.Common.{◌≡◌, refl, [], ◌∷◌, length, take, lit<, ap, append_assoc, arith}
use Rattle.std.proofs.lemmas.List.{length-append}
use Rattle.console.specs.Texts.{spaced}
use Rattle.console.proofs.Room.{spaced_more, spaced_room}
use Rattle.console.proofs.printing.push_numbers.Goals as goal

pub push-requires : goal.push-requires
unfolding encode_utf8
push-requires c =
    let one : length (encode_utf8 32) ≡ 1 = refl in
    (lit< tt, omega (arith, one, ap length c.loop-number.invariant, length-append c.args.text.now.bytes (spaced (take c.loop-number.number-index c.args.numbers.now)), spaced_room c.args.numbers.now c.loop-number.number-index (omega arith)))

pub push_str-requires : goal.push_str-requires
push_str-requires c =
    (lit< tt, omega (arith, ap length c.loop-number.invariant, length-append c.args.text.now.bytes (spaced (take c.loop-number.number-index c.args.numbers.now)), ap length (c.push.ensures.ascii (omega arith)), length-append c.loop-number.text.bytes (32 ∷ []), ap length c.format.ensures.text, spaced_room c.args.numbers.now c.loop-number.number-index (omega arith)))

pub loop-number-preserved : goal.loop-number-preserved
loop-number-preserved c =
    rw (c.push_str.ensures.bytes, c.push.ensures.ascii (omega arith), c.loop-number.invariant, c.format.ensures.text, spaced_more c.args.numbers.now c.loop-number.number-index (omega arith)) (simp append_assoc)

use Rattle.std.proofs.Common.{[], ◌∷◌, length, ap, ◌∙◌, arith}
use Rattle.std.proofs.lemmas.List.{length-append}
use Rattle.console.specs.Texts.{spaced}
use Rattle.console.proofs.Room.{one_room, refused_room}
use Rattle.console.proofs.printing.push_fault.Goals as goal

pub push_numbers-requires : goal.push_numbers-requires
push_numbers-requires c = omega (arith, c.push_str.ensures.len, c.push_str-2.ensures.len, c.layer.ensures.bound, c.number.ensures.bound, one_room 2 c.from.result (omega arith) (omega (arith, c.number.ensures.bound)) (omega arith))

pub push_numbers-requires-2 : goal.push_numbers-requires-2
push_numbers-requires-2 c =
    omega (
      arith,
      c.push_str.ensures.len,
      c.push_str-2.ensures.len,
      c.layer.ensures.bound,
      ap length c.push_numbers.ensures,
      length-append c.push_str-2.new.self.bytes (spaced (c.from.result ∷ [])),
      one_room 2 c.from.result (omega arith) (omega (arith, c.number.ensures.bound)) (omega arith),
      ap (λ t. length (spaced t)) (c.as_slice.ensures.value ∙ c.holds.ensures.value),
      c.holds.ensures.room,
    )

pub returns-clause-room : goal.returns-clause-room
returns-clause-room c = refused_room c.args.fault (omega (arith, c.layer.ensures.bound, ap length c.layer.ensures.value)) (omega (arith, c.number.ensures.bound, c.number.ensures.value)) c.holds.ensures.room

use Rattle.std.proofs.Common.{arith}
use Rattle.console.proofs.Room.{one_room, two_room}
use Rattle.console.proofs.printing.push_answer.Goals as goal

pub push_numbers-requires : goal.push_numbers-requires
push_numbers-requires c = omega (arith, c.push_str-in-Block.ensures.len, two_room 5 c.from.result c.from-in-Block.result (omega arith) (omega arith) (omega arith) (omega arith) (omega arith))

pub push_numbers-requires-in-Shortfall : goal.push_numbers-requires-in-Shortfall
push_numbers-requires-in-Shortfall c = omega (arith, c.push_str-in-Shortfall.ensures.len, one_room 10 c.from-in-Shortfall.result (omega arith) (omega arith) (omega arith))

pub returns-in-Block-clause-room : goal.returns-in-Block-clause-room
returns-in-Block-clause-room c = rw c.in-Block.is (omega (arith, two_room 5 c.in-Block.buses c.in-Block.posts (omega arith) (omega arith) (omega arith) (omega arith) (omega arith)))

pub returns-in-Shortfall-clause-room : goal.returns-in-Shortfall-clause-room
returns-in-Shortfall-clause-room c = rw c.in-Shortfall.is (omega (arith, one_room 10 c.in-Shortfall.count (omega arith) (omega arith) (omega arith)))

use Rattle.std.proofs.Common.{◌≤◌, [], ◌∷◌, length, subst, arith}
use Rattle.stores.specs.declared.pairs.Pair.{Pair}
use Rattle.console.specs.Texts.{spaced}
use Rattle.console.proofs.Room.{one_room, two_room}
use Rattle.console.proofs.refusals.table_holds.Goals as goal

pub returns-in-Level-clause-room : goal.returns-in-Level-clause-room
returns-in-Level-clause-room c = rw c.in-Level.is (one_room 20 c.in-Level.level (omega arith) (omega arith) (omega arith))

pub returns-in-Bytes-clause-room : goal.returns-in-Bytes-clause-room
returns-in-Bytes-clause-room c = rw c.in-Bytes.is (one_room 20 c.in-Bytes.count (omega arith) (omega arith) (omega arith))

pub returns-in-Node-clause-room : goal.returns-in-Node-clause-room
returns-in-Node-clause-room c = rw c.in-Node.is (one_room 20 c.in-Node.node (omega arith) (omega arith) (omega arith))

pub returns-in-Output-clause-room : goal.returns-in-Output-clause-room
returns-in-Output-clause-room c = rw c.in-Output.is (one_room 20 c.in-Output.count (omega arith) (omega arith) (omega arith))

pub returns-in-Store-clause-room : goal.returns-in-Store-clause-room
returns-in-Store-clause-room c =
    let room = two_room 5 c.pair-pair.result.bus c.pair-pair.result.post (omega arith) (omega arith) (omega arith) (omega arith) (omega arith) in
    let P : Pair → Type 0 = λ q. length (spaced (q.bus ∷ q.post ∷ [])) ≤ 21 in
    rw c.in-Store.is (subst P c.pair-pair.ensures (omega (arith, room)))

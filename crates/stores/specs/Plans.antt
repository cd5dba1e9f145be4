-- What it is to bring one pair to the standing that is planned for it, in any store.
use Rattle.std.specs.Prelude.{◌≡◌, ℕ, ◌+◌, ◌<◌, ◌≤◌, None, Ok, Err, Option, Result, ◌≢◌}
use Rattle.blocks.specs.Sums.{bit}
use Rattle.stores.specs.declared.faults.StoreFault.{StoreFault}
use Rattle.stores.specs.declared.faults.StoreFault.TheVariants.{NoBus, NoPost, Full}
use Rattle.stores.specs.declared.pairs.Side.{Side}
use Rattle.stores.specs.Meaning.{Meaning, pair, stands, put}
use Rattle.stores.specs.Promises.{Refused, Done}

-- refused: the fault, and the store is as it was
pub record Declined (before after : Meaning) (room room' : ℕ) (f : StoreFault) (r : Result ℕ StoreFault) : Type 0 where
  pub fault : r ≡ Err f
  pub meaning : after ≡ before
  pub room_same : room' ≡ room

-- the pair stands as planned, nothing else has changed, and the answer is the room that is left
pub record Assigned (before after : Meaning) (room room' b p : ℕ) (s : Option Side) (r : Result ℕ StoreFault) : Type 0 where
  pub answer : r ≡ Ok room'
  pub meaning : after ≡ put b p s before
  pub room_left : room' + bit (stands s) ≡ room + bit (stands (before.standing b p))

-- the same of a pair that is known to lie within the sizes, before the room is read
pub record Brought (before after : Meaning) (room room' b p : ℕ) (s : Option Side) (r : Result (Unit {0}) StoreFault) : Type 0 where
  pub full : before.standing b p ≡ None → (s ≢ None) → room ≡ 0 → Refused before after room room' (Full (pair b p)) r
  pub adds : before.standing b p ≡ None → 0 < room → Done before after b p s r
  pub stays_absent : before.standing b p ≡ None → s ≡ None → Done before after b p s r
  pub changes : (before.standing b p ≢ None) → Done before after b p s r
  pub room_left : r ≡ Ok tt → room' + bit (stands s) ≡ room + bit (stands (before.standing b p))
  pub as_it_was : before.standing b p ≡ s → (after ≡ before) × (room' ≡ room)

-- no such bus, no such post, and full where the pair would have to be added to a store with no room; else it is done
pub record Planned (before after : Meaning) (room room' b p : ℕ) (s : Option Side) (r : Result ℕ StoreFault) : Type 0 where
  pub no_bus : before.buses ≤ b → Declined before after room room' (NoBus (pair b p)) r
  pub no_post : b < before.buses → before.posts ≤ p → Declined before after room room' (NoPost (pair b p)) r
  pub full : b < before.buses → p < before.posts → before.standing b p ≡ None → (s ≢ None) → room ≡ 0
      → Declined before after room room' (Full (pair b p)) r
  pub adds : b < before.buses → p < before.posts → before.standing b p ≡ None → 0 < room → Assigned before after room room' b p s r
  pub stays_absent : b < before.buses → p < before.posts → before.standing b p ≡ None → s ≡ None → Assigned before after room room' b p s r
  pub changes : b < before.buses → p < before.posts → (before.standing b p ≢ None) → Assigned before after room room' b p s r
  pub as_it_was : b < before.buses → p < before.posts → before.standing b p ≡ s → (after ≡ before) × (room' ≡ room)

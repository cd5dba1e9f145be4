-- What the calls of a store promise, over its meaning before and after. Which refusal comes first is the order of the fields.
use Rattle.std.specs.Prelude.{◌≡◌, ℕ, ◌+◌, ◌<◌, ◌≤◌, None, Ok, Err, Option, Result, ◌≢◌}
use Rattle.stores.specs.declared.faults.StoreFault.{StoreFault}
use Rattle.stores.specs.declared.faults.StoreFault.TheVariants.{NoBus, NoPost, Stands, Absent, Full}
use Rattle.stores.specs.declared.pairs.Side.{Side}
use Rattle.stores.specs.Meaning.{Meaning, pair, carried, other, put}

-- a bus or a post outside the sizes is refused
pub record Admitted (m : Meaning) (b p : ℕ) (r : Result (Unit {0}) StoreFault) : Type 0 where
  pub no_bus : m.buses ≤ b → r ≡ Err (NoBus (pair b p))
  pub no_post : b < m.buses → m.posts ≤ p → r ≡ Err (NoPost (pair b p))
  pub goes_on : b < m.buses → p < m.posts → r ≡ Ok tt

-- how a pair stands
pub record Told (m : Meaning) (b p : ℕ) (r : Result (Option Side) StoreFault) : Type 0 where
  pub no_bus : m.buses ≤ b → r ≡ Err (NoBus (pair b p))
  pub no_post : b < m.buses → m.posts ≤ p → r ≡ Err (NoPost (pair b p))
  pub tells : b < m.buses → p < m.posts → r ≡ Ok (m.standing b p)

-- refused: the fault, and nothing has changed
pub record Refused (before after : Meaning) (room room' : ℕ) (f : StoreFault) (r : Result (Unit {0}) StoreFault) : Type 0 where
  pub fault : r ≡ Err f
  pub meaning : after ≡ before
  pub room_same : room' ≡ room

-- done: one pair stands otherwise, and nothing else has changed
pub record Done (before after : Meaning) (b p : ℕ) (s : Option Side) (r : Result (Unit {0}) StoreFault) : Type 0 where
  pub accepted : r ≡ Ok tt
  pub meaning : after ≡ put b p s before

-- an absent pair is put on the side named, and room falls by one
pub record Added (before after : Meaning) (room room' b p : ℕ) (side : Side) (r : Result (Unit {0}) StoreFault) : Type 0 where
  pub no_bus : before.buses ≤ b → Refused before after room room' (NoBus (pair b p)) r
  pub no_post : b < before.buses → before.posts ≤ p → Refused before after room room' (NoPost (pair b p)) r
  pub pair_stands : b < before.buses → p < before.posts → (before.standing b p ≢ None) → Refused before after room room' (Stands (pair b p)) r
  pub full : b < before.buses → p < before.posts → before.standing b p ≡ None → room ≡ 0 → Refused before after room room' (Full (pair b p)) r
  pub adds : b < before.buses → p < before.posts → before.standing b p ≡ None → 0 < room
      → Done before after b p (carried side) r × (room' + 1 ≡ room)

-- a standing pair is removed, and room rises by one
pub record Dropped (before after : Meaning) (room room' b p : ℕ) (r : Result (Unit {0}) StoreFault) : Type 0 where
  pub no_bus : before.buses ≤ b → Refused before after room room' (NoBus (pair b p)) r
  pub no_post : b < before.buses → before.posts ≤ p → Refused before after room room' (NoPost (pair b p)) r
  pub pair_absent : b < before.buses → p < before.posts → before.standing b p ≡ None → Refused before after room room' (Absent (pair b p)) r
  pub drops : b < before.buses → p < before.posts → (before.standing b p ≢ None)
      → Done before after b p None r × (room' ≡ room + 1)

-- a standing pair goes over to its other end
pub record Turned (before after : Meaning) (room room' b p : ℕ) (r : Result (Unit {0}) StoreFault) : Type 0 where
  pub no_bus : before.buses ≤ b → Refused before after room room' (NoBus (pair b p)) r
  pub no_post : b < before.buses → before.posts ≤ p → Refused before after room room' (NoPost (pair b p)) r
  pub pair_absent : b < before.buses → p < before.posts → before.standing b p ≡ None → Refused before after room room' (Absent (pair b p)) r
  pub turns : b < before.buses → p < before.posts → (before.standing b p ≢ None)
      → Done before after b p (other (before.standing b p)) r × (room' ≡ room)

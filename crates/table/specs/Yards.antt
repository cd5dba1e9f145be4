-- What a store's meaning tells the theory: which pairs stand, and which of them their post carries.
use Rattle.std.specs.Prelude.{ℕ, Bool, cond, ◌||◌, List}
use Rattle.blocks.specs.Yards.{Yard}
use Rattle.blocks.specs.Networks.{Leads}
use Rattle.blocks.specs.Sides.{Sides, pointing, in_chain}
use Rattle.stores.specs.Meaning.{Meaning, stands, by_post, other}

abbrev pub yard_of : Meaning → Yard
yard_of m = record { buses = m.buses; posts = m.posts; paired = λ b p. stands (m.standing b p) }

abbrev pub sides_of : Meaning → Sides
sides_of m b p = by_post (m.standing b p)

-- each pair points at the end that carries it
abbrev pub leads_of : Meaning → Leads
leads_of m = pointing m.buses (yard_of m).paired (sides_of m)

-- two nodes are paired, whichever carries the pair
abbrev pub joined : Meaning → ℕ → ℕ → Bool
joined m x y = leads_of m x y || leads_of m y x

-- every pair of a chain turned, and no other
abbrev pub along : ℕ → List ℕ → Meaning → Meaning
along x vs m = record {
  buses = m.buses;
  posts = m.posts;
  standing = λ b p. cond (in_chain m.buses x vs b p) (other (m.standing b p)) (m.standing b p);
}

-- Pairs of one bus turned, and how many of them stand one way.
use Rattle.std.specs.Prelude.{◌≡◌, ℕ, ◌+◌, ◌<◌, min, Bool, not, ◌&&◌, ◌≢◌, Option}
use Rattle.blocks.specs.Sums.{sum, bit}
use Rattle.blocks.specs.Limits.{Limits}
use Rattle.stores.specs.Meaning.{Meaning, stands, by_post}
use Rattle.stores.specs.declared.pairs.Side.{Side}
use Rattle.stores.specs.declared.pairs.Side.TheVariants.{Bus as bus_side, Post as post_side}

-- this side carries the pair
abbrev pub is_on : Side → Option Side → Bool
is_on bus_side s = stands s && not (by_post s)
is_on post_side s = by_post s

-- how many pairs of the bus this side carries
abbrev pub on_side : Meaning → Side → ℕ → ℕ
on_side m side b = sum m.posts (λ p. bit (is_on side (m.standing b p)))

-- how many pairs the bus has
abbrev pub pairs_of : Meaning → ℕ → ℕ
pairs_of m b = sum m.posts (λ p. bit (stands (m.standing b p)))

-- from m to n only sides of the bus b have changed
pub record OnlyBus (m n : Meaning) (b : ℕ) : Type 0 where
  pub buses : n.buses ≡ m.buses
  pub posts : n.posts ≡ m.posts
  pub same_pairs : (c p : ℕ) → stands (n.standing c p) ≡ stands (m.standing c p)
  pub others : (c p : ℕ) → (c ≢ b) → n.standing c p ≡ m.standing c p

-- `count` pairs of the bus have gone from this side to the other; none where the count is 0
pub record SomeTurned (m n : Meaning) (b : ℕ) (side : Side) (count : ℕ) : Type 0 where
  pub only : OnlyBus m n b
  pub fewer : on_side n side b + count ≡ on_side m side b
  pub none : count ≡ 0 → n ≡ m

-- a bus carries the lesser of its limit and its number of pairs; nothing has changed if it did before
pub record BusSettled (m n : Meaning) (b limit : ℕ) : Type 0 where
  pub only : OnlyBus m n b
  pub carries : on_side n bus_side b ≡ min limit (pairs_of m b)
  pub same : on_side m bus_side b ≡ min limit (pairs_of m b) → n ≡ m

-- every bus carries the lesser of its limit and its number of pairs
abbrev pub BusesRight : Meaning → Limits → Type 0
BusesRight m L = (b : ℕ) → b < m.buses → on_side m bus_side b ≡ min (L.bus b) (pairs_of m b)

-- from m to n only sides have changed
pub record SamePairs (m n : Meaning) : Type 0 where
  pub buses : n.buses ≡ m.buses
  pub posts : n.posts ≡ m.posts
  pub same : (c p : ℕ) → stands (n.standing c p) ≡ stands (m.standing c p)

-- the buses are right, only sides have changed, and none has if they were right before
pub record BusesSettled (m n : Meaning) (L : Limits) : Type 0 where
  pub pairs : SamePairs m n
  pub right : BusesRight n L
  pub same : BusesRight m L → n ≡ m

-- Sides made even by turning one chain after the other.
use Rattle.std.specs.Prelude.{◌≡◌, ℕ, ◌<◌, Bool, true, false, ◌⊎◌, Some, None, Option}
use Rattle.blocks.specs.Limits.{Limits}
use Rattle.blocks.specs.Sides.{Even, all_over}
use Rattle.stores.specs.Meaning.{Meaning}
use Rattle.table.specs.declared.queues.Queue.{Queue}
use Rattle.table.specs.Yards.{yard_of, sides_of, leads_of}
use Rattle.table.specs.Searches.{len, node, from, OverPairs}
use Rattle.table.specs.Levels.{over_at, under_at}
use Rattle.table.specs.Buses.{BusesRight, SamePairs}

-- the sides of a store are even
abbrev pub EvenSides : Meaning → Limits → Type 0
EvenSides m L = Even (yard_of m) L (sides_of m)

-- a place of the queue from which the way back leads from a post under its limit to one over it, at some level; or even sides
pub record Uneven (m : Meaning) (L : Limits) (q : Queue) (answer : Option ℕ) : Type 0 where
  pub over : OverPairs m q
  pub found : (i : ℕ) → i < len q → (from q i ≡ i) ⊎ ((from q i < i) × (leads_of m (node q i) (node q (from q i)) ≡ true))
  pub finds : (place : ℕ) → answer ≡ Some place → (a : ℕ) × (a < 256) × (place < len q) × (under_at m L a (node q place) ≡ true)
      × ((i : ℕ) → i < len q → from q i ≡ i → over_at m L a (node q i) ≡ true)
  pub misses : answer ≡ None → EvenSides m L

-- what the nodes carry beyond their limits, over all levels: it falls with each chain turned
abbrev pub unevenness : Meaning → Limits → ℕ
unevenness m L = all_over (yard_of m) L (sides_of m)

-- one chain has been turned, from a post under its limit to one over it, and the sides are nearer to even; or they are even
pub record ChainTurned (m n : Meaning) (L : Limits) (answer : Bool) : Type 0 where
  pub even : answer ≡ false → EvenSides m L × (n ≡ m)
  pub nearer : answer ≡ true → (EvenSides m L → ⊥) × BusesRight n L × SamePairs m n × (unevenness n L < unevenness m L)

-- the sides are even, only sides have changed, and none has if they were even before
pub record Settled (m n : Meaning) (L : Limits) : Type 0 where
  pub pairs : SamePairs m n
  pub even : EvenSides n L
  pub same : EvenSides m L → n ≡ m

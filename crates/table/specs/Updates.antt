-- One pair more or less, and one chain turned after it.
use Rattle.std.specs.Prelude.{◌≡◌, ℕ, ◌<◌, ◌≤◌, Bool, true, ◌⊎◌, List, None}
use Rattle.blocks.specs.Limits.{Limits, limit_at}
use Rattle.blocks.specs.Yards.{add, drop}
use Rattle.blocks.specs.Networks.{Walk}
use Rattle.blocks.specs.Chains.{Chain, end}
use Rattle.blocks.specs.Sides.{OneChainTurned}
use Rattle.stores.specs.Meaning.{Meaning, put, stands}
use Rattle.table.specs.declared.queues.Queue.{Queue}
use Rattle.table.specs.Yards.{yard_of, sides_of, leads_of, along}
use Rattle.table.specs.Searches.{len, node, from, OverPairs}
use Rattle.table.specs.Levels.{size, load_of}
use Rattle.table.specs.Buses.{SamePairs}
use Rattle.table.specs.Evening.{EvenSides}

-- the queue holds all that leads to the node x, which is its only start
pub record AllLeading (m : Meaning) (x : ℕ) (q : Queue) : Type 0 where
  pub over : OverPairs m q
  pub found : (i : ℕ) → i < len q → (from q i ≡ i) ⊎ ((from q i < i) × (leads_of m (node q i) (node q (from q i)) ≡ true))
  pub some : 0 < len q
  pub first : node q 0 ≡ x
  pub only : (i : ℕ) → i < len q → from q i ≡ i → i ≡ 0
  pub all : (n : ℕ) → n < size m → Walk (leads_of m) n x → (i : ℕ) × (i < len q) × (node q i ≡ n)

-- a place of the queue whose node is sought wherever any of its nodes is; the first place if none is sought anywhere
pub record Chosen (sought : ℕ → ℕ → Bool) (q : Queue) (place : ℕ) : Type 0 where
  pub inside : place < len q
  pub wherever : (c i : ℕ) → c < 256 → i < len q → sought c (node q i) ≡ true → sought c (node q place) ≡ true
  pub which : (place ≡ 0) ⊎ ((c : ℕ) × (c < 256) × (sought c (node q place) ≡ true))

-- the pair has been added, the sides are even, and of the pairs that stood exactly those of one chain have turned
pub record AddedEven (m n : Meaning) (L : Limits) (b p : ℕ) : Type 0 where
  pub yard : yard_of n ≡ add b p (yard_of m)
  pub even : EvenSides n L
  pub chain : OneChainTurned (yard_of m) (yard_of m).paired (sides_of m) (sides_of n)

-- no refusal stands against adding the pair
pub record Addable (m : Meaning) (room b p : ℕ) : Type 0 where
  pub bus : b < m.buses
  pub post : p < m.posts
  pub absent : m.standing b p ≡ None
  pub place : 0 < room

-- the pair has been dropped, the sides are even, and of the pairs that stay exactly those of one chain have turned
pub record DroppedEven (m n : Meaning) (L : Limits) (b p : ℕ) : Type 0 where
  pub yard : yard_of n ≡ drop b p (yard_of m)
  pub even : EvenSides n L
  pub chain : OneChainTurned (yard_of m) (drop b p (yard_of m)).paired (sides_of m) (sides_of n)

-- one chain from the node y has turned, to a post that is over its limit wherever any post that y leads to is
pub record TurnedFrom (m n : Meaning) (L : Limits) (y : ℕ) : Type 0 where
  pub rest : List ℕ
  pub chain : Chain (leads_of m) y rest
  pub changes : n ≡ along y rest m
  pub post : m.buses ≤ end y rest
  pub inside : end y rest < size m
  pub wherever : (k a : ℕ) → m.buses ≤ k → k < size m → a < 256 → Walk (leads_of m) y k → limit_at m.buses L a k < load_of m k
      → limit_at m.buses L a (end y rest) < load_of m (end y rest)

-- no refusal stands against dropping the pair
pub record Droppable (m : Meaning) (b p : ℕ) : Type 0 where
  pub bus : b < m.buses
  pub post : p < m.posts
  pub held : stands (m.standing b p) ≡ true

-- only sides have changed, and the sides are even once the pair is gone
pub record WayMade (m n : Meaning) (L : Limits) (b p : ℕ) : Type 0 where
  pub pairs : SamePairs m n
  pub dropped : DroppedEven m (put b p None n) L b p

-- Going down the levels: the posts over their limit only grow, and so does the set from which one of them is reached.
use Rattle.std.specs.Prelude.{◌≡◌, ℕ, ◌+◌, ◌-◌, ◌<◌, ◌≤◌, Bool, true, false, ◌&&◌, List, Some, None, Option, nat_le, nat_lt, slice_index}
use Rattle.blocks.specs.Sets.{Set}
use Rattle.blocks.specs.Limits.{Limits, limit_at}
use Rattle.blocks.specs.Networks.{Leads, load, Reach}
use Rattle.blocks.specs.Sides.{post_load}
use Rattle.stores.specs.Meaning.{Meaning}
use Rattle.table.specs.declared.queues.Queue.{Queue}
use Rattle.table.specs.Yards.{yard_of, sides_of, leads_of}
use Rattle.table.specs.Searches.{len, node, from, marked, Searched}

-- the pairs against their pointing
abbrev pub against : Meaning → Leads
against m x y = leads_of m y x

-- the number of nodes
abbrev pub size : Meaning → ℕ
size m = m.buses + m.posts

-- what a node carries
abbrev pub load_of : Meaning → ℕ → ℕ
load_of m n = load (size m) (leads_of m) n

-- the node is over its limit at the level
abbrev pub over_at : Meaning → Limits → ℕ → ℕ → Bool
over_at m L a n = nat_lt (limit_at m.buses L a n) (load_of m n)

-- the node is a post under its limit at the level
abbrev pub under_at : Meaning → Limits → ℕ → ℕ → Bool
under_at m L a n = nat_le m.buses n && nat_lt (load_of m n) (limit_at m.buses L a n)

-- what each post carries, as an array
abbrev pub LoadsOf : Meaning → List ℕ → Type 0
LoadsOf m loads = (p : ℕ) → p < m.posts → slice_index loads p ≡ post_load (yard_of m) (sides_of m) p

-- the node is a post under its limit at the level, by what the posts carry
abbrev pub under : List ℕ → Limits → ℕ → ℕ → ℕ → ℕ → Bool
under loads L buses posts a n =
    nat_le buses n && (nat_lt (n - buses) posts && (nat_lt (n - buses) 256 && nat_lt (slice_index loads (n - buses)) (L.post a (n - buses))))

-- no bus carries more than its limit
abbrev pub BusesWithin : Meaning → Limits → Type 0
BusesWithin m L = (b : ℕ) → b < m.buses → load_of m b ≤ L.bus b

-- what is sought at a level is sought at every higher one
abbrev pub Upward : (ℕ → ℕ → Bool) → Type 0
Upward sought = (a c n : ℕ) → a ≤ c → c < 256 → sought a n ≡ true → sought c n ≡ true

-- at the level c the nodes from which one over its limit is reached are known, and none of them is sought
pub record Clear (m : Meaning) (L : Limits) (sought : ℕ → ℕ → Bool) (c : ℕ) : Type 0 where
  pub set_of : Set
  pub reach : Reach (size m) (leads_of m) (limit_at m.buses L c) set_of
  pub unsought : (n : ℕ) → n < size m → set_of n ≡ true → sought c n ≡ false

-- the posts over their limit have become starts; one of them was wanted, or none is
pub record OverStarted (m : Meaning) (L : Limits) (a : ℕ) (wanted : ℕ → Bool) (q r : Queue) (marks : List ℕ) (answer : Option ℕ) : Type 0 where
  pub state : Searched (against m) (size m) r marks
  pub longer : len q ≤ len r
  pub next : r.next ≡ q.next
  pub same_node : (i : ℕ) → i < len q → node r i ≡ node q i
  pub same_from : (i : ℕ) → i < len q → from r i ≡ from q i
  pub is_start : (i : ℕ) → len q ≤ i → i < len r → (from r i ≡ i) × (over_at m L a (node r i) ≡ true)
  pub finds : (place : ℕ) → answer ≡ Some place → (len q ≤ place) × (place < len r) × (wanted (node r place) ≡ true)
  pub misses : answer ≡ None → ((p : ℕ) → p < m.posts → over_at m L a (m.buses + p) ≡ true → marked marks (m.buses + p) ≡ true)
      × ((i : ℕ) → len q ≤ i → i < len r → wanted (node r i) ≡ false)

-- from level 255 down to `low`: the highest level at which a sought node is found, and its place; or every level is clear
pub record Descended (m : Meaning) (L : Limits) (sought : ℕ → ℕ → Bool) (low : ℕ) (r : Queue) (marks : List ℕ) (answer : Option (ℕ × ℕ)) : Type 0 where
  pub state : Searched (against m) (size m) r marks
  pub finds : (a place : ℕ) → answer ≡ Some (a, place) → (low ≤ a) × (a < 256) × (place < len r) × (sought a (node r place) ≡ true)
      × ((i : ℕ) → i < len r → from r i ≡ i → over_at m L a (node r i) ≡ true) × ((c : ℕ) → a < c → c < 256 → Clear m L sought c)
  pub misses : answer ≡ None → ((c : ℕ) → low ≤ c → c < 256 → Clear m L sought c)
      × (low < 256 → Reach (size m) (leads_of m) (limit_at m.buses L low) (marked marks))

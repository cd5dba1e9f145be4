-- A search: what its queue and its marks hold, and what it promises.
use Rattle.std.specs.Prelude.{◌≡◌, ℕ, ◌+◌, ◌<◌, ◌≤◌, Bool, true, false, ◌⊎◌, List, [], ◌∷◌, ◌++◌, length, Some, None, Ok, Err, Option, Result, ◌≢◌, nat_lt, slice_index, slice_index_or}
use Rattle.blocks.specs.Sums.{sum, bit}
use Rattle.blocks.specs.Sets.{Set}
use Rattle.blocks.specs.Networks.{Leads, Walk}
use Rattle.blocks.specs.Chains.{Chain, end}
use Rattle.table.specs.declared.faults.TableFault.{TableFault}
use Rattle.table.specs.declared.faults.TableFault.TheVariants.{Bytes, Node}
use Rattle.stores.specs.Meaning.{Meaning, put, other}
use Rattle.table.specs.Yards.{joined, along}
use Rattle.table.specs.declared.queues.Queue.{Queue}

-- how many nodes have been found
abbrev pub len : Queue → ℕ
len q = length q.found.items

-- the i-th node found, and the place that it was found from
abbrev pub node : Queue → ℕ → ℕ
node q i = (slice_index_or q.found.items i (record { node = 0; from = 0 })).node

abbrev pub from : Queue → ℕ → ℕ
from q i = (slice_index_or q.found.items i (record { node = 0; from = 0 })).from

-- a node is marked
abbrev pub marked : List ℕ → ℕ → Bool
marked marks n = nat_lt 0 (slice_index marks n)

-- Between two steps of a search over N nodes: the marked nodes are those found, each once; each but a start was found from an earlier
-- one that leads to it; what the nodes before `next` lead to is marked.
pub record Searched (leads : Leads) (N : ℕ) (q : Queue) (marks : List ℕ) : Type 0 where
  pub long : N ≤ length marks
  pub few : N ≤ 512
  pub counted : len q ≡ sum N (λ n. bit (marked marks n))
  pub followed : q.next ≤ len q
  pub inside : (i : ℕ) → i < len q → node q i < N
  pub once : (i j : ℕ) → i < len q → j < len q → node q i ≡ node q j → i ≡ j
  pub found : (i : ℕ) → i < len q → (from q i ≡ i) ⊎ ((from q i < i) × (leads (node q (from q i)) (node q i) ≡ true))
  pub marks_found : (i : ℕ) → i < len q → marked marks (node q i) ≡ true
  pub found_marked : (n : ℕ) → n < N → marked marks n ≡ true → (i : ℕ) × (i < len q) × (node q i ≡ n)
  pub closed : (i y : ℕ) → i < q.next → y < N → leads (node q i) y ≡ true → marked marks y ≡ true

-- one node put behind the others
pub record Pushed (q r : Queue) (y f : ℕ) : Type 0 where
  pub found : r.found.items ≡ q.found.items ++ (record { node = y; from = f }) ∷ []
  pub next : r.next ≡ q.next

-- the queue has grown by nodes that are no starts
pub record Grown (q r : Queue) : Type 0 where
  pub longer : len q ≤ len r
  pub same_node : (i : ℕ) → i < len q → node r i ≡ node q i
  pub same_from : (i : ℕ) → i < len q → from r i ≡ from q i
  pub no_start : (i : ℕ) → len q ≤ i → i < len r → from r i < i

-- from the queue q to the queue r: either the place of a node that was looked for, or all that was found has been followed and none
-- of what was added was looked for
pub record Sought (leads : Leads) (N : ℕ) (wanted : ℕ → Bool) (q r : Queue) (marks : List ℕ) (answer : Option ℕ) : Type 0 where
  pub state : Searched leads N r marks
  pub grown : Grown q r
  pub finds : (place : ℕ) → answer ≡ Some place → (len q ≤ place) × (place < len r) × (wanted (node r place) ≡ true)
  pub misses : answer ≡ None → (r.next ≡ len r) × ((i : ℕ) → len q ≤ i → i < len r → wanted (node r i) ≡ false)

-- the same of one node's leads: at the end that node, too, has been followed
pub record Followed (leads : Leads) (N : ℕ) (wanted : ℕ → Bool) (q r : Queue) (marks : List ℕ) (answer : Option ℕ) : Type 0 where
  pub state : Searched leads N r marks
  pub grown : Grown q r
  pub finds : (place : ℕ) → answer ≡ Some place → (len q ≤ place) × (place < len r) × (wanted (node r place) ≡ true)
  pub misses : answer ≡ None → (r.next ≡ q.next + 1) × ((i : ℕ) → len q ≤ i → i < len r → wanted (node r i) ≡ false)

-- from the queue q to the queue r: a node has become a start, unless it was marked already
pub record Started (leads : Leads) (N : ℕ) (q r : Queue) (marks marks' : List ℕ) (start : ℕ) : Type 0 where
  pub state : Searched leads N r marks'
  pub there : marked marks' start ≡ true
  pub longer : len q ≤ len r
  pub next : r.next ≡ q.next
  pub same_node : (i : ℕ) → i < len q → node r i ≡ node q i
  pub same_from : (i : ℕ) → i < len q → from r i ≡ from q i
  pub is_start : (i : ℕ) → len q ≤ i → i < len r → (node r i ≡ start) × (from r i ≡ i)
  pub still : (n : ℕ) → marked marks n ≡ true → marked marks' n ≡ true

-- a chain from one of the starts to a node that was looked for
pub record ChainFound (leads : Leads) (wanted : ℕ → Bool) (starts : List ℕ) (last : ℕ) : Type 0 where
  pub first : ℕ
  pub rest : List ℕ
  pub from_start : (i : ℕ) × (i < length starts) × (slice_index starts i ≡ first)
  pub chain : Chain leads first rest
  pub ends : end first rest ≡ last
  pub is_wanted : wanted last ≡ true

-- a set that holds the starts, is closed under the leads, holds only what is reached from a start, and nothing that was looked for
pub record NothingFound (leads : Leads) (N : ℕ) (wanted : ℕ → Bool) (starts : List ℕ) : Type 0 where
  pub set_of : Set
  pub holds : (i : ℕ) → i < length starts → set_of (slice_index starts i) ≡ true
  pub closed : (x y : ℕ) → x < N → y < N → set_of x ≡ true → leads x y ≡ true → set_of y ≡ true
  pub reached : (n : ℕ) → n < N → set_of n ≡ true → (i : ℕ) × (i < length starts) × Walk leads (slice_index starts i) n
  pub unwanted : (n : ℕ) → n < N → set_of n ≡ true → wanted n ≡ false

-- every start is a node
abbrev pub AllNodes : ℕ → List ℕ → Type 0
AllNodes N starts = (i : ℕ) → i < length starts → slice_index starts i < N

-- the first start that is no node
abbrev pub FirstStray : ℕ → List ℕ → ℕ → Type 0
FirstStray N starts s = (i : ℕ) × (i < length starts) × (slice_index starts i ≡ s) × (N ≤ s) × ((j : ℕ) → j < i → slice_index starts j < N)

-- all that is found are starts, and these are they; one of them that was looked for, or none is
pub record AllStarted (leads : Leads) (N : ℕ) (wanted : ℕ → Bool) (starts : List ℕ) (r : Queue) (marks : List ℕ) (answer : Option ℕ) : Type 0 where
  pub state : Searched leads N r marks
  pub next : r.next ≡ 0
  pub only : (i : ℕ) → i < len r → (from r i ≡ i) × ((j : ℕ) × (j < length starts) × (slice_index starts j ≡ node r i))
  pub finds : (n : ℕ) → answer ≡ Some n → ((j : ℕ) × (j < length starts) × (slice_index starts j ≡ n)) × (wanted n ≡ true)
  pub misses : answer ≡ None → ((i : ℕ) → i < length starts → marked marks (slice_index starts i) ≡ true) × ((i : ℕ) → i < len r → wanted (node r i) ≡ false)

-- What a search from some starts answers, over so many working bytes: refused by too few of them, then by the first start that is no
-- node; else a node that was looked for and is reached, or none.
pub record Reached (leads : Leads) (N : ℕ) (wanted : ℕ → Bool) (starts : List ℕ) (bytes : ℕ) (r : Result (Option ℕ) TableFault) : Type 0 where
  pub short : bytes < N → r ≡ Err (Bytes bytes)
  pub stray : N ≤ bytes → (i : ℕ) → i < length starts → N ≤ slice_index starts i → ((j : ℕ) → j < i → slice_index starts j < N) → r ≡ Err (Node (slice_index starts i))
  pub answers : N ≤ bytes → AllNodes N starts → (f : TableFault) → r ≢ Err f
  pub finds : (n : ℕ) → r ≡ Ok (Some n) → ChainFound leads wanted starts n
  pub misses : r ≡ Ok None → NothingFound leads N wanted starts

-- x and y are bus b and post p, or post p and bus b
abbrev pub Ends : ℕ → ℕ → ℕ → ℕ → ℕ → Type 0
Ends B x y b p = ((x ≡ b) × (y ≡ B + p)) ⊎ ((x ≡ B + p) × (y ≡ b))

-- from the meaning m to the meaning n the pair of x and y has turned, and nothing else has changed
pub record PairTurned (m n : Meaning) (x y : ℕ) : Type 0 where
  pub bus : ℕ
  pub post : ℕ
  pub ends : Ends m.buses x y bus post
  pub within : bus < m.buses
  pub changes : n ≡ put bus post (other (m.standing bus post)) m

-- the way back from a place of the queue to the start that it was found from: the nodes behind the one at that place
pub data Trail (q : Queue) : ℕ → List ℕ → Type 0 where
  at_start : {i : ℕ} → from q i ≡ i → Trail q i []
  earlier : {i : ℕ} {vs : List ℕ} → from q i < i → Trail q (from q i) vs → Trail q i (node q (from q i) ∷ vs)

-- a queue of a search over the pairs of a meaning, along or against their pointing: each node found once, and each but a start paired
-- with the one that it was found from
pub record OverPairs (m : Meaning) (q : Queue) : Type 0 where
  pub few : len q ≤ 512
  pub inside : (i : ℕ) → i < len q → node q i < m.buses + m.posts
  pub once : (i j : ℕ) → i < len q → j < len q → node q i ≡ node q j → i ≡ j
  pub paired : (i : ℕ) → i < len q → (from q i ≡ i) ⊎ ((from q i < i) × (joined m (node q (from q i)) (node q i) ≡ true))

-- from the meaning m to the meaning n every pair on the way back has turned, and nothing else has changed
pub record TurnedBack (q : Queue) (place : ℕ) (m n : Meaning) : Type 0 where
  pub trail : List ℕ
  pub is_trail : Trail q place trail
  pub changes : n ≡ along (node q place) trail m

-- What a roll means: by its entries, kept in strictly ascending order of their pairs.
use Rattle.std.specs.Prelude.{◌≡◌, ℕ, ◌+◌, ◌*◌, ◌<◌, ◌≤◌, min, Bool, cond, ◌&&◌, List, [], ◌∷◌, length, None, Option, Ok, Err, Result, ◌==◌}
use Rattle.std.specs.List.{All, AllPairs, HoldsAt}
use Rattle.std.specs.List.Sorted.{IsPartitionPoint}
use Rattle.std.specs.Ordering.{nat_cmp, ordering_then}
use Rattle.std.specs.declared.cmp.Ordering.{Ordering}
use Rattle.std.specs.declared.cmp.Ordering.TheVariants.{Less, Greater}
use Rattle.stores.specs.declared.pairs.Pair.{Pair}
use Rattle.stores.specs.declared.pairs.Side.{Side}
use Rattle.rolls.specs.declared.Entry.{Entry}
use Rattle.stores.specs.Meaning.{Meaning, empty, carried}

-- the order of pairs: by bus, then post
abbrev pub pair_cmp : Pair → Pair → Ordering
pair_cmp x y = ordering_then (nat_cmp x.bus y.bus) (nat_cmp x.post y.post)

-- the same order as one number, since a post is below 65,536
abbrev pub key : Pair → ℕ
key q = q.bus * 65536 + q.post

-- the pair of the one entry comes before that of the other
abbrev pub Precedes : Entry → Entry → Type 0
Precedes x y = pair_cmp x.pair y.pair ≡ Less

-- strictly ascending
abbrev pub Ascending : List Entry → Type 0
Ascending = AllPairs Precedes

-- the bus and the post are within the sizes
abbrev pub Within : ℕ → ℕ → Entry → Type 0
Within buses posts e = (e.pair.bus < buses) × (e.pair.post < posts)

-- so is every entry's
abbrev pub Inside : List Entry → ℕ → ℕ → Type 0
Inside xs buses posts = All (Within buses posts) xs

-- is this the pair of that bus and post
abbrev pub names : Pair → ℕ → ℕ → Bool
names q b p = b == q.bus && p == q.post

-- how a pair stands: as the entry says that has its bus and post, and absent where none has
unfoldable pub standing : List Entry → ℕ → ℕ → Option Side
standing [] b p = None
standing (e ∷ es) b p = cond (names e.pair b p) (carried e.side) (standing es b p)

-- the place of a pair's entry
pub record Here (xs : List Entry) (q : Pair) (i : ℕ) : Type 0 where
  pub within : i < length xs
  pub same : HoldsAt (λ e. e.pair ≡ q) xs i

-- the place where a pair's entry would go, as there is none
pub record Gap (xs : List Entry) (q : Pair) (i : ℕ) : Type 0 where
  pub within : i ≤ length xs
  pub parts : IsPartitionPoint (λ e. pair_cmp e.pair q ≡ Less) (λ e. pair_cmp e.pair q ≡ Greater) xs i

-- a search answers the one or the other
abbrev pub Found : List Entry → Pair → Result ℕ ℕ → Type 0
Found xs q (Ok i) = Here xs q i
Found xs q (Err i) = Gap xs q i

-- what a list of entries means, of these sizes
abbrev pub meaning : List Entry → ℕ → ℕ → Meaning
meaning xs buses posts = record { buses = buses; posts = posts; standing = standing xs }

-- both sizes are 1 to 256
pub record Sizes (buses posts : ℕ) : Type 0 where
  pub some_buses : 0 < buses
  pub few_buses : buses ≤ 256
  pub some_posts : 0 < posts
  pub few_posts : posts ≤ 256

-- A new roll: no pair stands. A capacity above 1,024 counts as 1,024; other sizes make the roll void.
pub record Opened (buses posts capacity : ℕ) (m : Meaning) (room : ℕ) : Type 0 where
  pub sized : Sizes buses posts → (m ≡ empty buses posts) × (room ≡ min capacity 1024)
  pub void : (Sizes buses posts → ⊥) → (m ≡ empty 0 0) × (room ≡ 0)

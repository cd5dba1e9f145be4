-- The theorems of the subject, as statements. Functions carry them on their contracts.
use Rattle.std.specs.Prelude.{◌≡◌, ℕ, ◌+◌, ◌-◌, ◌<◌, ◌≤◌, true, false, cond, List, ℤ, pos, ◌≤ℤ◌, ◌==◌}
use Rattle.blocks.specs.Sums.{sum}
use Rattle.blocks.specs.Sets.{Set, Within, Same}
use Rattle.blocks.specs.Limits.{Limits, Rising, limit_at}
use Rattle.blocks.specs.Yards.{Yard, nodes, pairs, add, drop}
use Rattle.blocks.specs.Blocks.{Block, Shortfall, block_at, shortfall_at}
use Rattle.blocks.specs.Networks.{Leads, Network, load}
use Rattle.blocks.specs.Chains.{Chain, end, next_in, turned}
use Rattle.blocks.specs.Sides.{Sides, Sized, Even, pointing, flipped, post_load, ChainToOver, all_over, OneChainTurned}
use Rattle.blocks.specs.Ranks.{rank, Raised, Lowered}

-- this set is the block, in every yard and at all limits
abbrev pub BlockExists : (Yard → (ℕ → ℕ) → Set) → Type 0
BlockExists D = (A : Yard) (ℓ : ℕ → ℕ) → Block (nodes A) (pairs A) ℓ (D A ℓ)

abbrev pub BlockUnique : Type 0
BlockUnique = (A : Yard) (ℓ : ℕ → ℕ) (C D : Set) → Block (nodes A) (pairs A) ℓ C → Block (nodes A) (pairs A) ℓ D → Same (nodes A) C D

-- this number is the largest excess of any set, and some set has it
abbrev pub ShortfallIs : (Yard → (ℕ → ℕ) → ℕ) → Type 0
ShortfallIs s = (A : Yard) (ℓ : ℕ → ℕ) → Shortfall (nodes A) (pairs A) ℓ (s A ℓ)

abbrev pub ShortfallUnique : Type 0
ShortfallUnique = (A : Yard) (ℓ : ℕ → ℕ) (s t : ℕ) → Shortfall (nodes A) (pairs A) ℓ s → Shortfall (nodes A) (pairs A) ℓ t → s ≡ t

-- a higher level's block lies within a lower one's, up to the level `top`
abbrev pub BlocksNested : ℕ → Type 0
BlocksNested top = (A : Yard) (L : Limits) → Rising L → (a c : ℕ) → a < c → c ≤ top → Within (nodes A) (block_at A L c) (block_at A L a)

-- with at most 256 buses no node is left in the block of this level
abbrev pub BlockEmpty : ℕ → Type 0
BlockEmpty a = (A : Yard) (L : Limits) → Rising L → A.buses ≤ 256 → (n : ℕ) → n < nodes A → block_at A L a n ≡ false

-- for the levels up to `top`, the block is exactly the nodes of that rank or more
abbrev pub RankTells : ℕ → Type 0
RankTells top = (A : Yard) (L : Limits) → Rising L → (a n : ℕ) → a ≤ top → n < nodes A
    → (block_at A L a n ≡ true → pos a ≤ℤ rank A L n) × (pos a ≤ℤ rank A L n → block_at A L a n ≡ true)

-- an added pair lowers no shortfall, and raises none by more than `most`
abbrev pub ShortfallAdded : ℕ → Type 0
ShortfallAdded most = (A : Yard) (L : Limits) (b p : ℕ) → b < A.buses → p < A.posts → A.paired b p ≡ false → (a : ℕ)
    → (shortfall_at A L a ≤ shortfall_at (add b p A) L a) × (shortfall_at (add b p A) L a ≤ shortfall_at A L a + most)

-- a dropped pair raises no shortfall, and lowers none by more than `most`
abbrev pub ShortfallDropped : ℕ → Type 0
ShortfallDropped most = (A : Yard) (L : Limits) (b p : ℕ) → b < A.buses → p < A.posts → A.paired b p ≡ true → (a : ℕ)
    → (shortfall_at (drop b p A) L a ≤ shortfall_at A L a) × (shortfall_at A L a ≤ shortfall_at (drop b p A) L a + most)

-- an added pair raises only ranks that stood at one common rank, each by `step`; its bus is exempt and does not fall
abbrev pub RanksAdded : ℤ → Type 0
RanksAdded step = (A : Yard) (L : Limits) → Rising L → (b p : ℕ) → b < A.buses → p < A.posts → A.paired b p ≡ false → Raised step L b A (add b p A)

-- a dropped pair lowers only ranks that stood at one common rank, each by `step`; its bus is exempt and does not rise
abbrev pub RanksDropped : ℤ → Type 0
RanksDropped step = (A : Yard) (L : Limits) → Rising L → (b p : ℕ) → b < A.buses → p < A.posts → A.paired b p ≡ true → Lowered step L b A (drop b p A)

-- With even sides the block of a level, up to `top`, is the set of nodes from which a chain leads to a post over its limit.
abbrev pub SidesTellBlock : ℕ → Type 0
SidesTellBlock top = (Y : Yard) (L : Limits) (s : Sides) → Rising L → Sized Y → Even Y L s → (a n : ℕ) → a ≤ top → n < nodes Y
    → (block_at Y L a n ≡ true → ChainToOver Y L s a n) × (ChainToOver Y L s a n → block_at Y L a n ≡ true)

-- With even sides the shortfall of a level, up to `top`, is the sum over the posts of what they carry beyond their limit.
abbrev pub SidesTellShortfall : ℕ → Type 0
SidesTellShortfall top = (Y : Yard) (L : Limits) (s : Sides) → Rising L → Sized Y → Even Y L s → (a : ℕ) → a ≤ top
    → shortfall_at Y L a ≡ sum Y.posts (λ p. post_load Y s p - L.post a p)

-- A chain turned moves `most` load from its last node to its first, and no other.
abbrev pub ChainMoves : ℕ → Type 0
ChainMoves most = (N : ℕ) (leads : Leads) → Network N leads → (x : ℕ) (vs : List ℕ) → Chain leads x vs
    → (z : ℕ) → load N (turned x vs leads) z + cond (z == end x vs) most 0 ≡ load N leads z + cond (z == x) most 0

-- Exactly the leads of a chain are turned by turning it.
abbrev pub ChainExactly : Type 0
ChainExactly = (leads : Leads) (x : ℕ) (vs : List ℕ) → Chain leads x vs
    → (a b : ℕ) → turned x vs leads a b ≡ cond (next_in x vs a b) false (cond (next_in x vs b a) true (leads a b))

-- After an added pair, one chain of the sides as they stood, turned, makes them even again.
abbrev pub AdditionTurnsOneChain : Type 0
AdditionTurnsOneChain = (Y : Yard) (L : Limits) (s : Sides) → Rising L → Sized Y → Even Y L s
    → (b p : ℕ) → b < Y.buses → p < Y.posts → Y.paired b p ≡ false
    → (t : Sides) × Even (add b p Y) L t × OneChainTurned Y Y.paired s t

-- After a dropped pair, one chain of the sides as they stood, turned, makes them even again.
abbrev pub DropTurnsOneChain : Type 0
DropTurnsOneChain = (Y : Yard) (L : Limits) (s : Sides) → Rising L → Sized Y → Even Y L s
    → (b p : ℕ) → b < Y.buses → p < Y.posts → Y.paired b p ≡ true
    → (t : Sides) × Even (drop b p Y) L t × OneChainTurned Y (drop b p Y).paired s t

-- Every yard has even sides.
abbrev pub EvenSidesExist : Type 0
EvenSidesExist = (Y : Yard) (L : Limits) → Rising L → Sized Y → (s : Sides) × Even Y L s

-- Settling ends: a chain turned from a post under its limit to one over it, at a level up to `top`, lowers the sum over those levels
-- of what the nodes carry beyond their limits.
abbrev pub SettlingEnds : ℕ → Type 0
SettlingEnds top = (Y : Yard) (L : Limits) (s : Sides) → Rising L → Sized Y → (a x : ℕ) (vs : List ℕ) → a ≤ top
    → Chain (pointing Y.buses Y.paired s) x vs → x < nodes Y → end x vs < nodes Y
    → load (nodes Y) (pointing Y.buses Y.paired s) x < limit_at Y.buses L a x
    → limit_at Y.buses L a (end x vs) < load (nodes Y) (pointing Y.buses Y.paired s) (end x vs)
    → all_over Y L (flipped Y.buses x vs s) < all_over Y L s

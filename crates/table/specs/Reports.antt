-- What is read off even sides.
use Rattle.std.specs.Prelude.{◌≡◌, ℕ, ◌+◌, ◌<◌, ◌≤◌, true, false, List, Some, None, Option}
use Rattle.blocks.specs.Sums.{sum, bit}
use Rattle.blocks.specs.Sets.{Set}
use Rattle.blocks.specs.Limits.{Limits}
use Rattle.blocks.specs.Blocks.{block_at}
use Rattle.stores.specs.Meaning.{Meaning}
use Rattle.table.specs.Yards.{yard_of}
use Rattle.table.specs.Searches.{marked}
use Rattle.table.specs.Levels.{size}

-- the marks are those of the block of a level
abbrev pub BlockMarked : Meaning → Limits → ℕ → List ℕ → Type 0
BlockMarked m L a marks = (n : ℕ) → n < size m → marked marks n ≡ block_at (yard_of m) L a n

-- how many members of a set there are from one number up to another
abbrev pub count_from : Set → ℕ → ℕ → ℕ
count_from D start count = sum count (λ k. bit (D (start + k)))

-- the first member of a set from a number on, below n; none exactly if there is none
abbrev pub FirstMember : Set → ℕ → ℕ → Option ℕ → Type 0
FirstMember D start n None = (k : ℕ) → start ≤ k → k < n → D k ≡ false
FirstMember D start n (Some f) = (start ≤ f) × (f < n) × (D f ≡ true) × ((k : ℕ) → start ≤ k → k < f → D k ≡ false)

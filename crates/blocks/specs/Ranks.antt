-- Ranks, and how one pair moves them.
use Rattle.std.specs.Prelude.{◌≡◌, ℕ, zero, suc, ◌<◌, Bool, true, false, ◌⊎◌, ℤ, pos, negsuc, ◌+ℤ◌, ◌≤ℤ◌, ◌≢◌}
use Rattle.blocks.specs.Limits.{Limits}
use Rattle.blocks.specs.Yards.{Yard, nodes}
use Rattle.blocks.specs.Blocks.{block_at}

-- one more than the highest k below n that passes the test, 0 where none does
unfoldable pub height : ℕ → (ℕ → Bool) → ℕ
height zero test = 0
height (suc k) test = elim (test k) [ true ↦ suc k | false ↦ height k test ]

abbrev pub minus_one : ℕ → ℤ
minus_one zero = negsuc 0
minus_one (suc a) = pos a

-- one more than the rank: the levels that a rank counts are 0 to 255
unfoldable pub rank_plus_one : Yard → Limits → ℕ → ℕ
rank_plus_one Y L n = height 256 (λ a. block_at Y L a n)

-- the highest level from 0 to 255 whose block holds the node n, −1 where there is none
unfoldable pub rank : Yard → Limits → ℕ → ℤ
rank Y L n = minus_one (rank_plus_one Y L n)

-- From the yard A to the yard C: every node but the bus b keeps its rank or goes up by `step`, and all that go up stood at one
-- common rank; the bus b does not fall.
pub record Raised (step : ℤ) (L : Limits) (b : ℕ) (A C : Yard) : Type 0 where
  pub common : ℤ
  pub others : (n : ℕ) → n < nodes A → (n ≢ b) → (rank C L n ≡ rank A L n) ⊎ ((rank A L n ≡ common) × (rank C L n ≡ common +ℤ step))
  pub named : rank A L b ≤ℤ rank C L b

-- the same read backwards: all that go down stood at one common rank and go down by `step`; the bus b does not rise
abbrev pub Lowered : ℤ → Limits → ℕ → Yard → Yard → Type 0
Lowered step L b A C = Raised step L b C A

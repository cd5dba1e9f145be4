-- Excess, shortfall and block, over n nodes with the limits ℓ of one level. `pairs X` is the number of pairs with both ends in X,
-- by whichever way it is counted.
use Rattle.std.specs.Prelude.{◌≡◌, ℕ, ◌+◌, ◌-◌, ◌<◌, ◌≤◌, true, nat_lt}
use Rattle.blocks.specs.Sets.{Set, ◌∪◌, ◌∖◌, one, Within, Apart, largest}
use Rattle.blocks.specs.Limits.{Limits, limit, limit_at}
use Rattle.blocks.specs.Yards as yard

-- taking out any part U of D that is not empty loses more pairs than that part's limit
abbrev pub Inside : ℕ → (Set → ℕ) → (ℕ → ℕ) → Set → Type 0
Inside n pairs ℓ D = (U : Set) → Within n U D → (k : ℕ) → k < n → U k ≡ true → limit n ℓ U + pairs (D ∖ U) < pairs D

-- bringing in any part U from outside D gains at most that part's limit
abbrev pub Outside : ℕ → (Set → ℕ) → (ℕ → ℕ) → Set → Type 0
Outside n pairs ℓ D = (U : Set) → Apart n U D → pairs (D ∪ U) ≤ pairs D + limit n ℓ U

-- D is the block
pub record Block (n : ℕ) (pairs : Set → ℕ) (ℓ : ℕ → ℕ) (D : Set) : Type 0 where
  pub inside : Inside n pairs ℓ D
  pub outside : Outside n pairs ℓ D

-- X has s pairs more than its limit
abbrev pub Exceeds : ℕ → (Set → ℕ) → (ℕ → ℕ) → ℕ → Set → Type 0
Exceeds n pairs ℓ s X = pairs X ≡ limit n ℓ X + s

-- s is the shortfall, the largest excess: no set has more than s pairs above its limit, and some set has just s
pub record Shortfall (n : ℕ) (pairs : Set → ℕ) (ℓ : ℕ → ℕ) (s : ℕ) : Type 0 where
  pub most : (X : Set) → pairs X ≤ limit n ℓ X + s
  pub some : (X : Set) × Exceeds n pairs ℓ s X

-- the excess of a set in a yard, 0 where the limit is not reached (the empty set has 0, so the largest is the same)
unfoldable pub excess : yard.Yard → (ℕ → ℕ) → Set → ℕ
excess Y ℓ X = yard.pairs Y X - limit (yard.nodes Y) ℓ X

unfoldable pub shortfall : yard.Yard → (ℕ → ℕ) → ℕ
shortfall Y ℓ = largest (yard.nodes Y) (excess Y ℓ)

-- the nodes that every set of largest excess holds
unfoldable pub block : yard.Yard → (ℕ → ℕ) → Set
block Y ℓ n = nat_lt (largest (yard.nodes Y) (λ X. excess Y ℓ (X ∖ one n))) (shortfall Y ℓ)

-- the block of a level
abbrev pub block_at : yard.Yard → Limits → ℕ → Set
block_at Y L a = block Y (limit_at Y.buses L a)

-- the shortfall of a level
abbrev pub shortfall_at : yard.Yard → Limits → ℕ → ℕ
shortfall_at Y L a = shortfall Y (limit_at Y.buses L a)

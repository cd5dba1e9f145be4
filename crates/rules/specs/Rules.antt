-- The flat rule, and what a search over any rule's levels promises.
use Rattle.std.specs.Prelude.{◌≡◌, ℕ, ◌<◌, ◌≤◌, Some, None, Option}
use Rattle.blocks.specs.Limits.{Limits}

-- one limit for all buses; a post's limit is the level
abbrev pub flat : ℕ → Limits
flat limit = record { bus = λ b. limit; post = λ a p. a }

-- The lowest level, 0 to 256, at which a post's limit is at least n, or None where no level has that.
pub record Lowest (L : Limits) (p n : ℕ) (r : Option ℕ) : Type 0 where
  pub found : (a : ℕ) → a ≤ 256 → n ≤ L.post a p → ((b : ℕ) → b < a → L.post b p < n) → r ≡ Some a
  pub none : ((a : ℕ) → a ≤ 256 → L.post a p < n) → r ≡ None

-- The shortfall is the one number that its description fits.
use Rattle.std.proofs.Common.{◌≡◌, ℕ, arith}
use Rattle.blocks.specs.Sets.{Set}
use Rattle.blocks.specs.Yards.{Yard, nodes, pairs}
use Rattle.blocks.specs.Blocks.{Shortfall, shortfall}
use Rattle.blocks.proofs.Exists.{shortfall_is}

pub shortfall_unique : (n : ℕ) (count : Set → ℕ) (ℓ : ℕ → ℕ) (s t : ℕ) → Shortfall n count ℓ s → Shortfall n count ℓ t → s ≡ t
shortfall_unique n count ℓ s t p q = omega (arith, p.some.1, q.some.1, q.most p.some.0, p.most q.some.0)

pub is_shortfall : (A : Yard) (ℓ : ℕ → ℕ) (s : ℕ) → Shortfall (nodes A) (pairs A) ℓ s → s ≡ shortfall A ℓ
is_shortfall A ℓ s h = shortfall_unique (nodes A) (pairs A) ℓ s (shortfall A ℓ) h (shortfall_is A ℓ)

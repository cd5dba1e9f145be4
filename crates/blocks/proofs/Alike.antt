-- Only the pairs and limits of the yard's own buses and posts count.
use Rattle.std.proofs.Common.{◌≡◌, ℕ, ◌+◌, ◌<◌, Bool, ◌&&◌, sym, ap, ◌∙◌, arith}
use Rattle.blocks.specs.Sums.{bit}
use Rattle.blocks.specs.Sets.{Set, Same}
use Rattle.blocks.specs.Limits.{Limits, limit_at}
use Rattle.blocks.specs.Yards.{Yard, nodes, pairs}
use Rattle.blocks.specs.Blocks.{Block, shortfall, block}
use Rattle.blocks.specs.Ranks.{rank_plus_one, minus_one, rank}
use Rattle.blocks.proofs.Sums.{sum_cong}
use Rattle.blocks.proofs.Pairs.{yard, limit_le}
use Rattle.blocks.proofs.Compare.{compare, same_bool, unique}
use Rattle.blocks.proofs.Exists.{exists, most, block_greatest}
use Rattle.blocks.proofs.Heights.{height_same}

-- the block is `block`
pub block_is : (A : Yard) (ℓ : ℕ → ℕ) (D : Set) → Block (nodes A) (pairs A) ℓ D → Same (nodes A) D (block A ℓ)
block_is A ℓ D d = unique A ℓ D (block A ℓ) d (exists A ℓ)

pub pairs_alike : (B P : ℕ) (e f : ℕ → ℕ → Bool) (X : Set) → ((b p : ℕ) → b < B → p < P → e b p ≡ f b p) → pairs (yard B P e) X ≡ pairs (yard B P f) X
unfolding pairs
pairs_alike B P e f X same = sum_cong B _ _ (λ b w. sum_cong P _ _ (λ p v. ap (λ t. bit (t && (X b && X (B + p)))) (same b p w v)))

module _ (B P : ℕ) (e f : ℕ → ℕ → Bool) (same : (b p : ℕ) → b < B → p < P → e b p ≡ f b p) where
  module _ (ℓ m : ℕ → ℕ) (alike : (n : ℕ) → n < B + P → ℓ n ≡ m n) where
    pub block_alike : Same (B + P) (block (yard B P e) ℓ) (block (yard B P f) m)
    block_alike n w =
        same_bool (block (yard B P e) ℓ n) (block (yard B P f) m n)
        (compare B P e f ℓ m (block (yard B P e) ℓ) (block (yard B P f) m) (exists (yard B P e) ℓ).inside (exists (yard B P f) m).outside
        (λ b p v u h. sym (same b p v u) ∙ h) (λ k v. omega (arith, alike k v)) n w)
        (compare B P f e m ℓ (block (yard B P f) m) (block (yard B P e) ℓ) (exists (yard B P f) m).inside (exists (yard B P e) ℓ).outside
        (λ b p v u h. same b p v u ∙ h) (λ k v. omega (arith, alike k v)) n w)

    pub shortfall_alike : shortfall (yard B P e) ℓ ≡ shortfall (yard B P f) m
    shortfall_alike =
        let D : Set = block (yard B P e) ℓ in
        let E : Set = block (yard B P f) m in
        omega (
          arith,
          block_greatest (yard B P e) ℓ,
          block_greatest (yard B P f) m,
          most (yard B P e) ℓ E,
          most (yard B P f) m D,
          pairs_alike B P e f D same,
          pairs_alike B P e f E same,
          limit_le (B + P) ℓ m D (λ k v. omega (arith, alike k v)),
          limit_le (B + P) m ℓ D (λ k v. omega (arith, alike k v)),
          limit_le (B + P) ℓ m E (λ k v. omega (arith, alike k v)),
          limit_le (B + P) m ℓ E (λ k v. omega (arith, alike k v)),
        )

  pub rank_alike : (K L : Limits) → ((a n : ℕ) → a < 256 → n < B + P → limit_at B K a n ≡ limit_at B L a n) → (n : ℕ) → n < B + P → rank (yard B P e) K n ≡ rank (yard B P f) L n
  unfolding rank rank_plus_one
  rank_alike K L alike n w = ap minus_one (height_same 256 _ _ (λ a v. block_alike (limit_at B K a) (limit_at B L a) (λ k u. alike a k v u) n w))

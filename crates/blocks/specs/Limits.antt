-- Limits: what a node may take, by level. A bus has one limit; a post has one for each level 0 to 256.
use Rattle.std.specs.Prelude.{ℕ, suc, ◌-◌, ◌<◌, ◌≤◌, cond, nat_lt}
use Rattle.blocks.specs.Sums.{sum}
use Rattle.blocks.specs.Sets.{Set}

pub record Limits : Type 0 where
  pub bus : ℕ → ℕ  -- by bus
  pub post : ℕ → ℕ → ℕ  -- by level, then post

-- a post's limit rises by at least one with each level, from 0 to 256
abbrev pub Rising : Limits → Type 0
Rising L = (a p : ℕ) → a < 256 → L.post a p < L.post (suc a) p

-- The law of limits: they rise, and none passes 65,535.
pub record Lawful (L : Limits) : Type 0 where
  pub rises : Rising L
  pub bus_fits : (b : ℕ) → L.bus b ≤ 65535
  pub post_fits : (a p : ℕ) → a ≤ 256 → L.post a p ≤ 65535

-- the limit of the node n at the level a: bus b is node b, and post p is node buses + p
unfoldable pub limit_at : ℕ → Limits → ℕ → ℕ → ℕ
limit_at buses L a n = cond (nat_lt n buses) (L.bus n) (L.post a (n - buses))

-- the limit of a set, of the nodes below n: the sum of its members' limits
unfoldable pub limit : ℕ → (ℕ → ℕ) → Set → ℕ
limit n ℓ X = sum n (λ k. cond (X k) (ℓ k) 0)

-- The limits rise with the level, so the blocks are nested.
use Rattle.std.proofs.Common.{◌≡◌, ℕ, zero, suc, ◌+◌, ◌-◌, ◌<◌, ◌≤◌, ltb, sym, ap, ◌∙◌, inl, inr, arith}
use Rattle.std.proofs.lemmas.Bool.{cases_eq, cases_lt, lt-ltb, le-ltb, cond-true, cond-false}
use Rattle.blocks.specs.Sets.{Within}
use Rattle.blocks.specs.Limits.{Limits, Rising, limit_at}
use Rattle.blocks.specs.Yards.{Yard, nodes}
use Rattle.blocks.specs.Blocks.{block_at}
use Rattle.blocks.proofs.Compare.{nested}
use Rattle.blocks.proofs.Exists.{exists}

-- from the limits ℓ to the limits m every post has more, and every bus the same
pub record Rise (B P : ℕ) (ℓ m : ℕ → ℕ) : Type 0 where
  pub bus : (n : ℕ) → n < B → ℓ n ≡ m n
  pub post : (p : ℕ) → p < P → ℓ (B + p) < m (B + p)

pub rise_le : (B P : ℕ) (ℓ m : ℕ → ℕ) → Rise B P ℓ m → (n : ℕ) → n < B + P → ℓ n ≤ m n
rise_le B P ℓ m r n w = elim (cases_lt n B) [
  | inl b ↦ omega (arith, r.bus n b)
  | inr h ↦
      let e : B + (n - B) ≡ n = omega arith in
      omega (arith, r.post (n - B) (omega arith), ap ℓ e, ap m e)
]

post_rise : (L : Limits) → Rising L → (a c p : ℕ) → a < c → c ≤ 256 → L.post a p < L.post c p
post_rise L r a zero p lt top = absurd (omega arith)
post_rise L r a (suc c) p lt top =
    let last : L.post c p < L.post (suc c) p = r c p (omega arith) in
    elim (cases_eq a c) [
      | inl e ↦ omega (arith, ap (λ x. L.post x p) e)
      | inr d ↦ omega (arith, post_rise L r a c p (omega arith) (omega arith))
    ]

pub at_bus : (A : Yard) (L : Limits) (a n : ℕ) → n < A.buses → limit_at A.buses L a n ≡ L.bus n
unfolding limit_at
at_bus A L a n w = cond-true (ltb n A.buses) _ _ (lt-ltb n A.buses w)

pub at_post : (A : Yard) (L : Limits) (a p : ℕ) → limit_at A.buses L a (A.buses + p) ≡ L.post a p
unfolding limit_at
at_post A L a p =
    let e : (A.buses + p) - A.buses ≡ p = omega arith in
    cond-false (ltb (A.buses + p) A.buses) _ _ (le-ltb (A.buses + p) A.buses (omega arith)) ∙ ap (L.post a) e

module _ (A : Yard) (L : Limits) (rising : Rising L) where
  pub level_rise : (a c : ℕ) → a < c → c ≤ 256 → Rise A.buses A.posts (limit_at A.buses L a) (limit_at A.buses L c)
  level_rise a c lt top = record {
    bus = λ n w. at_bus A L a n w ∙ sym (at_bus A L c n w);
    post = λ p w. omega (arith, at_post A L a p, at_post A L c p, post_rise L rising a c p lt top);
  }

  pub level_nested : (a c : ℕ) → a < c → c ≤ 256 → Within (nodes A) (block_at A L c) (block_at A L a)
  level_nested a c lt top =
      nested A (limit_at A.buses L c) (limit_at A.buses L a) (block_at A L c) (block_at A L a)
      (rise_le A.buses A.posts (limit_at A.buses L a) (limit_at A.buses L c) (level_rise a c lt top)) (exists A (limit_at A.buses L c)) (exists A (limit_at A.buses L a))

-- What is read off even sides: loads, shortfalls and blocks.
use Rattle.std.proofs.Common.{◌≡◌, ℕ, ◌+◌, ◌-◌, ◌<◌, true, not, ◌&&◌, subst, arith}
use Rattle.std.proofs.lemmas.Bool.Decides.{nat_tests}
use Rattle.blocks.specs.Sums.{sum, bit}
use Rattle.blocks.specs.Sets.{Set, ◌∪◌, ◌∖◌}
use Rattle.blocks.specs.Yards.{pairs}
use Rattle.blocks.specs.Blocks.{Block, Shortfall}
use Rattle.blocks.specs.Networks.{load, over, leads_in, Reach}
use Rattle.blocks.specs.Sides.{Sides, pointing, EvenNetwork, Levels}
use Rattle.blocks.proofs.Sums.{sum_cong, sum_none, sum_split}
use Rattle.blocks.proofs.Duality.{reach_block}
use Rattle.blocks.proofs.Tightness.{tight_shortfall}
use Rattle.blocks.proofs.Evenness.{even_tight}
use Rattle.blocks.proofs.Pointing.{yard_net, yard_pairs}
use Rattle.blocks.proofs.Pairs.{yard}

-- another way to count the same
pub block_count : (N : ℕ) (c d : Set → ℕ) (ℓ : ℕ → ℕ) (D : Set) → ((X : Set) → c X ≡ d X) → Block N c ℓ D → Block N d ℓ D
block_count N c d ℓ D e b = record {
  inside = λ U h n l m. let p = e D in let q = e (D ∖ U) in let r = b.inside U h n l m in omega arith;
  outside = λ U h. let p = e D in let q = e (D ∪ U) in let r = b.outside U h in omega arith;
}

pub shortfall_count : (N : ℕ) (c d : Set → ℕ) (ℓ : ℕ → ℕ) (s : ℕ) → ((X : Set) → c X ≡ d X) → Shortfall N c ℓ s → Shortfall N d ℓ s
shortfall_count N c d ℓ s e f = record {
  most = λ X. let p = e X in let r = f.most X in omega arith;
  some = let X = f.some.0 in let p = e X in let r = f.some.1 in (X, omega arith);
}

module _ (B P : ℕ) (paired by_post : Sides) where
  pub post_load : (p : ℕ) → p < P → load (B + P) (pointing B paired by_post) (B + p) ≡ sum B (λ b. bit (paired b p && by_post b p))
  post_load p l =
      let e : (B + p) - B ≡ p = omega arith in
      let a = sum_split B P (λ x. bit (pointing B paired by_post x (B + p))) in
      let b = sum_none P (λ q. bit (pointing B paired by_post (B + q) (B + p))) (λ q _. grind (arith, nat_tests)) in
      let c = sum_cong B (λ x. bit (pointing B paired by_post x (B + p))) (λ b. bit (paired b p && by_post b p)) (λ b k. grind (arith, nat_tests)) in
      omega arith

  pub bus_load : (b : ℕ) → b < B → load (B + P) (pointing B paired by_post) b ≡ sum P (λ p. bit (paired b p && not (by_post b p)))
  bus_load b l =
      let a = sum_split B P (λ x. bit (pointing B paired by_post x b)) in
      let z = sum_none B (λ x. bit (pointing B paired by_post x b)) (λ x k. grind (arith, nat_tests)) in
      let c = sum_cong P (λ p. bit (pointing B paired by_post (B + p) b)) (λ p. bit (paired b p && not (by_post b p))) (λ p k. let e : (B + p) - B ≡ p = omega arith in grind (arith, nat_tests)) in
      omega arith

module _ (B P L : ℕ) (ℓ : ℕ → ℕ → ℕ) (limits : Levels B L ℓ) (paired by_post : Sides) (inside : (b p : ℕ) → paired b p ≡ true → (b < B) × (p < P))
    (even : EvenNetwork B (B + P) L ℓ (pointing B paired by_post)) (a : ℕ) (la : a < L) where
  -- only posts can be over their limits
  posts_over : over (B + P) (load (B + P) (pointing B paired by_post)) (ℓ a) ≡ sum P (λ p. load (B + P) (pointing B paired by_post) (B + p) - ℓ a (B + p))
  posts_over =
      let s = sum_split B P (λ y. load (B + P) (pointing B paired by_post) y - ℓ a y) in
      let z = sum_none B (λ y. load (B + P) (pointing B paired by_post) y - ℓ a y) (λ b l. let e = even.bus b l in let q = limits.of_bus a b la l in omega arith) in
      omega arith

  pub read_shortfall : Shortfall (B + P) (pairs (yard B P paired)) (ℓ a) (sum P (λ p. load (B + P) (pointing B paired by_post) (B + p) - ℓ a (B + p)))
  read_shortfall =
      let net = yard_net B P paired by_post inside in
      let f = tight_shortfall (B + P) (pointing B paired by_post) (ℓ a) net (even_tight B (B + P) L ℓ limits (pointing B paired by_post) net even a la) in
      subst (Shortfall (B + P) (pairs (yard B P paired)) (ℓ a)) posts_over
      (shortfall_count (B + P) (leads_in (B + P) (pointing B paired by_post)) (pairs (yard B P paired)) (ℓ a) (over (B + P) (load (B + P) (pointing B paired by_post)) (ℓ a)) (yard_pairs B P paired by_post) f)

  pub read_block : (D : Set) → Reach (B + P) (pointing B paired by_post) (ℓ a) D → Block (B + P) (pairs (yard B P paired)) (ℓ a) D
  read_block D r =
      let net = yard_net B P paired by_post inside in
      block_count (B + P) (leads_in (B + P) (pointing B paired by_post)) (pairs (yard B P paired)) (ℓ a) D (yard_pairs B P paired by_post)
      (reach_block (B + P) (pointing B paired by_post) (ℓ a) D r (even_tight B (B + P) L ℓ limits (pointing B paired by_post) net even a la) net)

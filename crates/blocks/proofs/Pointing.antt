-- From yards to networks.
use Rattle.std.proofs.Common.{◌≡◌, ℕ, ◌+◌, ◌-◌, ◌<◌, Bool, true, false, ◌&&◌, sym, ◌∙◌, arith}
use Rattle.std.proofs.lemmas.Bool.Decides.{nat_tests}
use Rattle.blocks.specs.Sums.{sum, bit}
use Rattle.blocks.specs.Sets.{Set}
use Rattle.blocks.specs.Yards.{Yard, pairs, add, drop}
use Rattle.blocks.specs.Networks.{Network, leads_in}
use Rattle.blocks.specs.Chains.{with_lead, without_lead}
use Rattle.blocks.specs.Sides.{Sides, pointing, put}
use Rattle.blocks.proofs.Sums.{sum_cong, sum_add, sum_swap, sum_none, sum_split}
use Rattle.blocks.proofs.Pairs.{yard}

module _ (B P : ℕ) (paired by_post : Sides) (inside : (b p : ℕ) → paired b p ≡ true → (b < B) × (p < P)) where
  pub yard_net : Network (B + P) (pointing B paired by_post)
  yard_net = record {
    within = λ x y t. let i = inside x (y - B) in let j = inside y (x - B) in grind (arith, nat_tests);
    one_way = λ x y t u. grind (arith, nat_tests);
  }

module _ (B P : ℕ) (paired by_post : Sides) (X : Set) where
  term : ℕ → ℕ → ℕ
  term x y = bit (pointing B paired by_post x y && (X x && X y))

  low : (x y : ℕ) → x < B → y < B → term x y ≡ 0
  unfolding term
  low x y h k = grind (arith, nat_tests)

  high : (p q : ℕ) → term (B + p) (B + q) ≡ 0
  unfolding term
  high p q = grind (arith, nat_tests)

  cross : (b p : ℕ) → b < B → term b (B + p) + term (B + p) b ≡ bit (paired b p && (X b && X (B + p)))
  unfolding term
  cross b p h = let e : (B + p) - B ≡ p = omega arith in grind (arith, nat_tests)

  -- the pairs inside a set are counted alike, whatever the sides
  pub yard_pairs : leads_in (B + P) (pointing B paired by_post) X ≡ pairs (yard B P paired) X
  unfolding term pairs
  yard_pairs =
      let a = sum_split B P (λ x. sum (B + P) (term x)) in
      let b = sum_cong B (λ x. sum (B + P) (term x)) (λ x. sum P (λ p. term x (B + p)))
      (λ x l. let s = sum_split B P (term x) in let z = sum_none B (term x) (λ y k. low x y l k) in omega arith) in
      let c = sum_cong P (λ q. sum (B + P) (term (B + q))) (λ q. sum B (λ y. term (B + q) y))
      (λ q l. let s = sum_split B P (term (B + q)) in let z = sum_none P (λ k. term (B + q) (B + k)) (λ k _. high q k) in omega arith) in
      let d = sum_swap P B (λ q y. term (B + q) y) in
      let e = sum_add B (λ b. sum P (λ p. term b (B + p))) (λ b. sum P (λ q. term (B + q) b)) in
      let f = sum_cong B (λ b. sum P (λ p. term b (B + p)) + sum P (λ q. term (B + q) b)) (λ b. sum P (λ p. bit (paired b p && (X b && X (B + p)))))
      (λ b l. sym (sum_add P (λ p. term b (B + p)) (λ q. term (B + q) b))
      ∙ sum_cong P (λ p. term b (B + p) + term (B + p) b) (λ p. bit (paired b p && (X b && X (B + p)))) (λ p _. cross b p l)) in
      omega arith

-- a pair added
module _ (Y : Yard) (s : Sides) (b p : ℕ) (lb : b < Y.buses) (fresh : Y.paired b p ≡ false) where
  pub added_to_post : (x y : ℕ) → pointing Y.buses (add b p Y).paired (put b p true s) x y ≡ with_lead b (Y.buses + p) (pointing Y.buses Y.paired s) x y
  added_to_post x y = grind (arith, nat_tests)

  pub added_to_bus : (x y : ℕ) → pointing Y.buses (add b p Y).paired (put b p false s) x y ≡ with_lead (Y.buses + p) b (pointing Y.buses Y.paired s) x y
  added_to_bus x y = grind (arith, nat_tests)

-- a pair dropped; what its side's entry then holds is open
module _ (Y : Yard) (s : Sides) (b p : ℕ) (lb : b < Y.buses) (v : Bool) where
  pub dropped_from_post : s b p ≡ true → (x y : ℕ) → pointing Y.buses (drop b p Y).paired (put b p v s) x y ≡ without_lead b (Y.buses + p) (pointing Y.buses Y.paired s) x y
  dropped_from_post h x y = grind (arith, nat_tests)

  pub dropped_from_bus : s b p ≡ false → (x y : ℕ) → pointing Y.buses (drop b p Y).paired (put b p v s) x y ≡ without_lead (Y.buses + p) b (pointing Y.buses Y.paired s) x y
  dropped_from_bus h x y = grind (arith, nat_tests)

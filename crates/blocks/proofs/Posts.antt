-- A post and its buses; and the level at which no block is left.
use Rattle.std.proofs.Common.{◌≡◌, ℕ, zero, suc, ◌+◌, ◌-◌, ◌<◌, ◌≤◌, Bool, true, false, not, ◌&&◌, eqb, refl, ap, ◌∙◌, inl, inr, arith}
use Rattle.std.proofs.lemmas.Bool.{cases_Bool, cases_lt, eq-eqb, eqb-true}
use Rattle.std.proofs.lemmas.Bool.Decides.{nat_tests}
use Rattle.blocks.specs.Sums.{sum, bit}
use Rattle.blocks.specs.Sets.{Set, ◌∖◌, one, Within}
use Rattle.blocks.specs.Limits.{Limits, Rising, limit_at}
use Rattle.blocks.specs.Yards.{Yard, nodes, pairs}
use Rattle.blocks.specs.Blocks.{Block, block_at}
use Rattle.blocks.proofs.Sums.{sum_cong, sum_zero, sum_one, sum_add, sum_bound}
use Rattle.blocks.proofs.Pairs.{counts}
use Rattle.blocks.proofs.Exists.{exists}
use Rattle.blocks.proofs.Levels.{at_post}
use Rattle.blocks.proofs.Buses.{degree, degree_le, limit_one, bus_in}

-- how many buses of X the post p is paired with
unfoldable pub post_degree : Yard → ℕ → Set → ℕ
post_degree A p X = sum A.buses (λ b. bit (A.paired b p && X b))

bit_one : (t : Bool) → bit t ≤ 1
bit_one t = grind arith

pub post_degree_bound : (A : Yard) (p : ℕ) (X : Set) → post_degree A p X ≤ A.buses
unfolding post_degree
post_degree_bound A p X = sum_bound A.buses _ (λ b w. bit_one (A.paired b p && X b))

module _ (A : Yard) (p : ℕ) (post : p < A.posts) where
  same_post : (e x y : Bool) (i k q : ℕ) → (i ≡ q → ⊥) → (k ≡ q → ⊥) → bit (e && (x && y)) ≡ bit (e && ((x && not (eqb i q)) && (y && not (eqb k q))))
  same_post e x y i k q d c = grind (arith, nat_tests)

  here : (e x y : Bool) → y ≡ true → bit (e && (x && y)) ≡ bit (e && x)
  here e x y h = grind arith

  none_here : (e x y : Bool) (q : ℕ) → bit (e && (x && (y && not (eqb q q)))) ≡ 0
  none_here e x y q = grind (arith, nat_tests)

  pub pairs_post : (X : Set) → X (A.buses + p) ≡ true → pairs A X ≡ pairs A (X ∖ one (A.buses + p)) + post_degree A p X
  unfolding pairs post_degree
  pairs_post X x =
      let B = A.buses in
      let q : ℕ = A.buses + p in
      let g : ℕ → ℕ = λ b. sum A.posts (counts B A.paired (X ∖ one q) b) in
      let h : ℕ → ℕ = λ b. bit (A.paired b p && X b) in
      let each : sum B (λ b. sum A.posts (counts B A.paired X b)) ≡ sum B (λ b. g b + h b) = sum_cong B _ _ (λ b w.
      let s = sum_one A.posts (counts B A.paired X b) (counts B A.paired (X ∖ one q) b) p post
      (λ j v d. same_post (A.paired b j) (X b) (X (B + j)) b (B + j) q (λ e. omega arith) (λ e. d (omega arith))) in
      omega (arith, here (A.paired b p) (X b) (X q) x, none_here (A.paired b p) (X b && not (eqb b q)) (X q) q)) in
      each ∙ sum_add B g h

  module _ (ℓ : ℕ → ℕ) (D : Set) (block : Block (nodes A) (pairs A) ℓ D) where
    pub post_in : D (A.buses + p) ≡ true → ℓ (A.buses + p) < post_degree A p D
    post_in d =
        let q : ℕ = A.buses + p in
        let within : Within (nodes A) (one q) D = λ k w e. ap D (eqb-true k q e) ∙ d in
        omega (arith, block.inside (one q) within q (omega arith) (eq-eqb q q refl), limit_one (nodes A) ℓ q (omega arith), pairs_post D d)

-- a post's limit at a level is that level at least
climbs : (L : Limits) → Rising L → (a p : ℕ) → a ≤ 256 → a ≤ L.post a p
climbs L r zero p w = omega arith
climbs L r (suc a) p w = omega (arith, climbs L r a p (omega arith), r a p (omega arith))

-- at level 256 no node is left
pub top_empty : (A : Yard) (L : Limits) → Rising L → A.buses ≤ 256 → (n : ℕ) → n < nodes A → block_at A L 256 n ≡ false
unfolding degree
top_empty A L rising few n w = elim (cases_Bool (block_at A L 256 n)) [
  | inr d ↦ d
  | inl d ↦ elim (cases_lt n A.buses) [
    | inl v ↦
        let over = bus_in A n v (limit_at A.buses L 256) (block_at A L 256) (exists A (limit_at A.buses L 256)) d in
        let less = degree_le A n (block_at A L 256) (λ _. false) (λ p u h. absurd (no_post p u h)) in
        let zero-degree : sum A.posts (λ p. bit (A.paired n p && false)) ≡ 0 = sum_cong A.posts _ (λ _. 0) (λ p u. none (A.paired n p)) ∙ sum_zero A.posts in
        absurd (omega arith)
    | inr v ↦
        let e : A.buses + (n - A.buses) ≡ n = omega arith in
        absurd (no_post (n - A.buses) (omega arith) (ap (block_at A L 256) e ∙ d))
  ]
]
  where
    none : (e : Bool) → bit (e && false) ≡ 0
    none e = grind arith

    no_post : (p : ℕ) → p < A.posts → block_at A L 256 (A.buses + p) ≡ true → ⊥
    no_post p u h = omega (
      arith,
      post_in A p u (limit_at A.buses L 256) (block_at A L 256) (exists A (limit_at A.buses L 256)) h,
      post_degree_bound A p (block_at A L 256),
      at_post A L 256 p,
      climbs L rising 256 p (omega arith),
    )

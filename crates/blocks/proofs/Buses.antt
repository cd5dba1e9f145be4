-- A bus and its posts: what one bus adds to the pairs of a set, and when it is in the block.
use Rattle.std.proofs.Common.{◌≡◌, ℕ, ◌+◌, ◌<◌, ◌≤◌, Bool, true, false, cond, not, ◌&&◌, ◌||◌, eqb, refl, ap, ◌∙◌, inl, inr, arith}
use Rattle.std.proofs.lemmas.Bool.{cases_Bool, cases_eq, eq-eqb, ne_eqb, eqb-true}
use Rattle.std.proofs.lemmas.Bool.Decides.{nat_tests}
use Rattle.blocks.specs.Sums.{sum, bit}
use Rattle.blocks.specs.Sets.{Set, ◌∪◌, ◌∖◌, one, Within, Apart, Same}
use Rattle.blocks.specs.Limits.{limit}
use Rattle.blocks.specs.Yards.{Yard, nodes, pairs}
use Rattle.blocks.specs.Blocks.{Block}
use Rattle.blocks.proofs.Sums.{sum_cong, sum_zero, sum_one, sum_le}
use Rattle.blocks.proofs.Pairs.{counts, pairs_same}

-- how many posts of X the bus n is paired with
unfoldable pub degree : Yard → ℕ → Set → ℕ
degree A n X = sum A.posts (λ p. bit (A.paired n p && X (A.buses + p)))

bit_le : (e x y : Bool) → (x ≡ true → y ≡ true) → bit (e && x) ≤ bit (e && y)
bit_le e x y h = grind arith

pub degree_le : (A : Yard) (n : ℕ) (X Y : Set) → ((p : ℕ) → p < A.posts → X (A.buses + p) ≡ true → Y (A.buses + p) ≡ true) → degree A n X ≤ degree A n Y
unfolding degree
degree_le A n X Y le = sum_le A.posts _ _ (λ p w. bit_le (A.paired n p) (X (A.buses + p)) (Y (A.buses + p)) (le p w))

pub limit_one : (m : ℕ) (ℓ : ℕ → ℕ) (n : ℕ) → n < m → limit m ℓ (one n) ≡ ℓ n
unfolding limit
limit_one m ℓ n w =
    let s = sum_one m (λ k. cond (eqb k n) (ℓ k) 0) (λ _. 0) n w (λ i v d. ap (λ t. cond t (ℓ i) 0) (ne_eqb i n d)) in
    let here : cond (eqb n n) (ℓ n) 0 ≡ ℓ n = ap (λ t. cond t (ℓ n) 0) (eq-eqb n n refl) in
    omega (arith, sum_zero m)

module _ (A : Yard) (n : ℕ) (bus : n < A.buses) where
  same_bus : (e x y : Bool) (i k : ℕ) → (i ≡ n → ⊥) → (k ≡ n → ⊥) → bit (e && (x && y)) ≡ bit (e && ((x && not (eqb i n)) && (y && not (eqb k n))))
  same_bus e x y i k d c = grind (arith, nat_tests)

  none_here : (e x y : Bool) → bit (e && ((x && not (eqb n n)) && y)) ≡ 0
  none_here e x y = grind (arith, nat_tests)

  here : (e x y : Bool) → x ≡ true → bit (e && (x && y)) ≡ bit (e && y)
  here e x y h = grind arith

  pub pairs_bus : (X : Set) → X n ≡ true → pairs A X ≡ pairs A (X ∖ one n) + degree A n X
  unfolding pairs degree
  pairs_bus X x =
      let B = A.buses in
      let f : ℕ → ℕ = λ i. sum A.posts (counts B A.paired X i) in
      let g : ℕ → ℕ = λ i. sum A.posts (counts B A.paired (X ∖ one n) i) in
      let s : sum B f + g n ≡ sum B g + f n = sum_one B f g n bus (λ i w d. sum_cong A.posts _ _ (λ p v. same_bus (A.paired i p) (X i) (X (B + p)) i (B + p) d (λ e. omega arith))) in
      let z : g n ≡ 0 = sum_cong A.posts _ (λ _. 0) (λ p v. none_here (A.paired n p) (X n) (X (B + p) && not (eqb (B + p) n))) ∙ sum_zero A.posts in
      let d : f n ≡ sum A.posts (λ p. bit (A.paired n p && X (B + p))) = sum_cong A.posts _ _ (λ p v. here (A.paired n p) (X n) (X (B + p)) x) in
      omega arith

  taken_out : (D : Set) → D n ≡ false → Same (nodes A) ((D ∪ one n) ∖ one n) D
  taken_out D h k w = elim (cases_eq k n) [
    | inl e ↦ let x : D k ≡ D n = ap D e in grind (arith, nat_tests)
    | inr d ↦ grind (arith, nat_tests)
  ]

  put_in : (D : Set) → (D ∪ one n) n ≡ true
  put_in D = grind (arith, nat_tests)

  same_post : (e x : Bool) (k : ℕ) → (k ≡ n → ⊥) → bit (e && (x || eqb k n)) ≡ bit (e && x)
  same_post e x k d = grind (arith, nat_tests)

  pub pairs_bus_in : (D : Set) → D n ≡ false → pairs A (D ∪ one n) ≡ pairs A D + degree A n D
  unfolding degree
  pairs_bus_in D h =
      let s = pairs_bus (D ∪ one n) (put_in D) in
      let r = pairs_same A ((D ∪ one n) ∖ one n) D (taken_out D h) in
      let d : degree A n (D ∪ one n) ≡ degree A n D = sum_cong A.posts _ _ (λ p v. same_post (A.paired n p) (D (A.buses + p)) (A.buses + p) (λ e. omega arith)) in
      omega arith

  module _ (ℓ : ℕ → ℕ) (D : Set) (block : Block (nodes A) (pairs A) ℓ D) where
    pub bus_in : D n ≡ true → ℓ n < degree A n D
    bus_in d =
        let within : Within (nodes A) (one n) D = λ k w e. ap D (eqb-true k n e) ∙ d in
        omega (arith, block.inside (one n) within n (omega arith) (eq-eqb n n refl), limit_one (nodes A) ℓ n (omega arith), pairs_bus D d)

    pub bus_out : D n ≡ false → degree A n D ≤ ℓ n
    bus_out d =
        let apart : Apart (nodes A) (one n) D = λ k w e. ap D (eqb-true k n e) ∙ d in
        omega (arith, block.outside (one n) apart, limit_one (nodes A) ℓ n (omega arith), pairs_bus_in D d)

    -- a bus is in the block just where it has more than its limit of pairs with posts of the block
    pub bus_from : ℓ n < degree A n D → D n ≡ true
    bus_from h = elim (cases_Bool (D n)) [ inl d ↦ d | inr d ↦ absurd (omega (arith, bus_out d)) ]

-- Lemmas on sums.
use Rattle.std.proofs.Common.{◌≡◌, ℕ, zero, suc, ◌+◌, ◌<◌, ◌≤◌, cond, eqb, sym, refl, ap, ◌∙◌, inl, inr, add-one, arith}
use Rattle.std.proofs.lemmas.Bool.{cases_eq, eq-eqb, ne_eqb, cond-true, cond-false}
use Rattle.blocks.specs.Sums.{sum}

-- two sums against two, place by place: the lemma that nearly all others come from
pub sum-le₂ : (n : ℕ) (f g h k : ℕ → ℕ) → ((i : ℕ) → i < n → f i + g i ≤ h i + k i) → sum n f + sum n g ≤ sum n h + sum n k
unfolding sum
sum-le₂ zero f g h k le = omega arith
sum-le₂ (suc n) f g h k le =
    let before : sum n f + sum n g ≤ sum n h + sum n k = sum-le₂ n f g h k (λ i w. le i (omega arith)) in
    omega (arith, le n (omega arith))

pub sum-eq₂ : (n : ℕ) (f g h k : ℕ → ℕ) → ((i : ℕ) → i < n → f i + g i ≡ h i + k i) → sum n f + sum n g ≡ sum n h + sum n k
sum-eq₂ n f g h k eq =
    let up : sum n f + sum n g ≤ sum n h + sum n k = sum-le₂ n f g h k (λ i w. omega (arith, eq i w)) in
    let down : sum n h + sum n k ≤ sum n f + sum n g = sum-le₂ n h k f g (λ i w. omega (arith, eq i w)) in
    omega arith

pub sum_le : (n : ℕ) (f g : ℕ → ℕ) → ((i : ℕ) → i < n → f i ≤ g i) → sum n f ≤ sum n g
sum_le n f g le =
    let twice : sum n f + sum n f ≤ sum n g + sum n g = sum-le₂ n f f g g (λ i w. omega (arith, le i w)) in
    omega arith

pub sum_cong : (n : ℕ) (f g : ℕ → ℕ) → ((i : ℕ) → i < n → f i ≡ g i) → sum n f ≡ sum n g
sum_cong n f g eq =
    let up : sum n f ≤ sum n g = sum_le n f g (λ i w. omega (arith, eq i w)) in
    let down : sum n g ≤ sum n f = sum_le n g f (λ i w. omega (arith, eq i w)) in
    omega arith

pub sum_zero : (n : ℕ) → sum n (λ _. 0) ≡ 0
unfolding sum
sum_zero zero = refl
sum_zero (suc n) = omega (arith, sum_zero n)

pub sum_none : (n : ℕ) (f : ℕ → ℕ) → ((i : ℕ) → i < n → f i ≡ 0) → sum n f ≡ 0
sum_none n f h = sum_cong n f (λ _. 0) h ∙ sum_zero n

-- of a sum of functions
pub sum_add : (n : ℕ) (f g : ℕ → ℕ) → sum n (λ i. f i + g i) ≡ sum n f + sum n g
sum_add n f g =
    let both : sum n (λ i. f i + g i) + sum n (λ _. 0) ≡ sum n f + sum n g = sum-eq₂ n (λ i. f i + g i) (λ _. 0) f g (λ i w. omega arith) in
    omega (arith, sum_zero n)

-- one place changed
pub sum_one : (n : ℕ) (f g : ℕ → ℕ) (m : ℕ) → m < n → ((i : ℕ) → i < n → (i ≡ m → ⊥) → f i ≡ g i) → sum n f + g m ≡ sum n g + f m
unfolding sum
sum_one zero f g m w same = omega arith
sum_one (suc n) f g m w same = elim (cases_eq n m) [
  | inl e ↦
      let before : sum n f ≡ sum n g = sum_cong n f g (λ i v. same i (omega arith) (λ d. omega arith)) in
      omega (arith, ap f e, ap g e)
  | inr d ↦
      let before : sum n f + g m ≡ sum n g + f m = sum_one n f g m (omega arith) (λ i v. same i (omega arith)) in
      omega (arith, same n (omega arith) d)
]

-- strict where one place is strict
pub sum_lt : (n : ℕ) (f g : ℕ → ℕ) → ((i : ℕ) → i < n → f i ≤ g i) → (m : ℕ) → m < n → f m < g m → sum n f < sum n g
unfolding sum
sum_lt zero f g le m w lt = omega arith
sum_lt (suc n) f g le m w lt = elim (cases_eq n m) [
  | inl e ↦
      let before : sum n f ≤ sum n g = sum_le n f g (λ i v. le i (omega arith)) in
      omega (arith, ap f e, ap g e)
  | inr d ↦
      let before : sum n f < sum n g = sum_lt n f g (λ i v. le i (omega arith)) m (omega arith) lt in
      omega (arith, le n (omega arith))
]

-- a sum is at most n where each place is at most 1
pub sum_bound : (n : ℕ) (f : ℕ → ℕ) → ((i : ℕ) → i < n → f i ≤ 1) → sum n f ≤ n
unfolding sum
sum_bound zero f le = omega arith
sum_bound (suc n) f le =
    let before : sum n f ≤ n = sum_bound n f (λ i v. le i (omega arith)) in
    omega (arith, le n (omega arith))

-- exchange of two sums
pub sum_swap : (m n : ℕ) (f : ℕ → ℕ → ℕ) → sum m (λ i. sum n (λ j. f i j)) ≡ sum n (λ j. sum m (λ i. f i j))
unfolding sum
sum_swap zero n f = sym (sum_zero n)
sum_swap (suc m) n f =
    let before : sum m (λ i. sum n (λ j. f i j)) ≡ sum n (λ j. sum m (λ i. f i j)) = sum_swap m n f in
    omega (arith, sum_add n (λ j. sum m (λ i. f i j)) (λ j. f m j))

-- c at the place i, else nothing
pub sum_at : (n i c : ℕ) → i < n → sum n (λ k. cond (eqb k i) c 0) ≡ c
sum_at n i c l =
    let one = sum_one n (λ k. cond (eqb k i) c 0) (λ _. 0) i l (λ k _ d. cond-false (eqb k i) c 0 (ne_eqb k i d)) in
    let here = cond-true (eqb i i) c 0 (eq-eqb i i refl) in
    omega (arith, sum_zero n)

-- equal sums of which one is nowhere larger are equal everywhere
pub sum_same : (n : ℕ) (f g : ℕ → ℕ) → ((k : ℕ) → k < n → f k ≤ g k) → sum n f ≡ sum n g → (i : ℕ) → i < n → f i ≡ g i
sum_same n f g h e i l = elim (cases_eq (f i) (g i)) [
  | inl s ↦ s
  | inr d ↦ let a = h i l in let b = sum_lt n f g h i l (omega arith) in omega arith
]

-- in two parts
pub sum_split : (n m : ℕ) (f : ℕ → ℕ) → sum (n + m) f ≡ sum n f + sum m (λ k. f (n + k))
unfolding sum
sum_split n zero f = let e : n + 0 ≡ n = omega arith in rw e (omega arith)
sum_split n (suc m) f = let e : n + suc m ≡ suc (n + m) = omega arith in let r = sum_split n m f in rw e (omega arith)

-- one place more
pub sum_empty : (f : ℕ → ℕ) → sum 0 f ≡ 0
unfolding sum
sum_empty f = refl

pub sum_more : (n : ℕ) (f : ℕ → ℕ) → sum (n + 1) f ≡ sum n f + f n
unfolding sum
sum_more n f = rw add-one refl

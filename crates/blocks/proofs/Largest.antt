-- `largest n f` is met by some set of numbers below n, and no such set has more.
use Rattle.std.proofs.Common.{◌≡◌, ℕ, zero, suc, ◌≤◌, true, false, not, ◌&&◌, ◌||◌, eqb, ltb, refl, ap, ◌∙◌, inl, inr, arith}
use mathlib.Core.Path.{fun_ext}
use Rattle.std.proofs.lemmas.Bool.{cases_Bool, cases_eq, cases_lt, ne_eqb, or_from, lt-ltb, le-ltb, and_left}
use Rattle.std.proofs.lemmas.Bool.Decides.{nat_tests}
use Rattle.blocks.specs.Sets.{Set, with_one, nobody, largest, ◌∖◌, one, Same}

-- X holds numbers below n only
abbrev pub Only : ℕ → Set → Type 0
Only n X = (k : ℕ) → n ≤ k → X k ≡ false

put_back : (X : Set) (n k : ℕ) → X n ≡ true → X k ≡ (eqb k n || (X k && not (eqb k n)))
put_back X n k h = elim (cases_eq k n) [
  | inl e ↦ let x : X k ≡ X n = ap X e in grind (arith, nat_tests)
  | inr d ↦ grind (arith, nat_tests)
]

pub largest_most : (n : ℕ) (f : Set → ℕ) (X : Set) → Only n X → f X ≤ largest n f
unfolding largest
largest_most zero f X only = omega (arith, ap f (fun_ext {f = X} {g = nobody} (λ k. only k (omega arith))))
largest_most (suc n) f X only = elim (cases_Bool (X n)) [
  | inl x ↦
      let rest : Only n (X ∖ one n) = λ k h. elim (cases_eq k n) [ inl e ↦ grind (arith, nat_tests) | inr d ↦ and_left (X k) (not (eqb k n)) (only k (omega arith)) ] in
      let same : X ≡ with_one n (X ∖ one n) = fun_ext (λ k. put_back X n k x) in
      let m : f (with_one n (X ∖ one n)) ≤ largest n (λ Z. f (with_one n Z)) = largest_most n (λ Z. f (with_one n Z)) (X ∖ one n) rest in
      omega (arith, ap f same)
  | inr x ↦
      let here : Only n X = λ k h. elim (cases_eq k n) [ inl e ↦ ap X e ∙ x | inr d ↦ only k (omega arith) ] in
      omega (arith, largest_most n f X here)
]

pub largest_met : (n : ℕ) (f : Set → ℕ) → (X : Set) × Only n X × (f X ≡ largest n f)
unfolding largest
largest_met zero f = (nobody, (λ k h. refl), refl)
largest_met (suc n) f =
    let a = largest_met n f in
    let b = largest_met n (λ Z. f (with_one n Z)) in
    elim (cases_lt (largest n f) (largest n (λ Z. f (with_one n Z)))) [
      | inl lt ↦ (with_one n b.0, (λ k h. or_from (eqb k n) (b.0 k) (ne_eqb k n (λ e. omega arith)) (b.1 k (omega arith))), omega (arith, b.2))
      | inr le ↦ (a.0, (λ k h. a.1 k (omega arith)), omega (arith, a.2))
    ]

-- the numbers of X below n
abbrev pub clip : ℕ → Set → Set
clip n X k = ltb k n && X k

pub clip_only : (n : ℕ) (X : Set) → Only n (clip n X)
clip_only n X k h = and_left (ltb k n) (X k) (le-ltb k n h)

pub clip_same : (n : ℕ) (X : Set) → Same n (clip n X) X
clip_same n X k h = ap (λ t. t && X k) (lt-ltb k n h)

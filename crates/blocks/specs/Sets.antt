-- Sets of nodes, as tests on numbers: only the numbers below the number of nodes matter.
use Rattle.std.specs.Prelude.{◌≡◌, ℕ, zero, suc, ◌<◌, max, Bool, true, false, not, ◌&&◌, ◌||◌, ◌==◌}

abbrev pub Set : Type 0
Set = ℕ → Bool

infixl 60 ◌∪◌
infixl 65 ◌∩◌
infixl 65 ◌∖◌
abbrev pub ◌∪◌ : Set → Set → Set
(X ∪ Y) k = X k || Y k

abbrev pub ◌∩◌ : Set → Set → Set
(X ∩ Y) k = X k && Y k

-- X without Y
abbrev pub ◌∖◌ : Set → Set → Set
(X ∖ Y) k = X k && not (Y k)

-- the set of n alone
abbrev pub one : ℕ → Set
one n k = k == n

abbrev pub nobody : Set
nobody k = false

-- X and n
abbrev pub with_one : ℕ → Set → Set
with_one n X k = k == n || X k

-- among the numbers below n: X is a part of Y
abbrev pub Within : ℕ → Set → Set → Type 0
Within n X Y = (k : ℕ) → k < n → X k ≡ true → Y k ≡ true

-- X and Y have no member in common
abbrev pub Apart : ℕ → Set → Set → Type 0
Apart n X Y = (k : ℕ) → k < n → X k ≡ true → Y k ≡ false

-- X and Y have the same members
abbrev pub Same : ℕ → Set → Set → Type 0
Same n X Y = (k : ℕ) → k < n → X k ≡ Y k

-- the largest f X over all sets X of numbers below n: those without the last number, and those with it
unfoldable pub largest : ℕ → (Set → ℕ) → ℕ
largest zero f = f nobody
largest (suc n) f = max (largest n f) (largest n (λ X. f (with_one n X)))

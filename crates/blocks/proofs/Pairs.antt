-- Pairs gain more from a larger set; limits add up. Each is a statement on Booleans, summed.
use Rattle.std.proofs.Common.{◌≡◌, ℕ, ◌+◌, ◌<◌, ◌≤◌, Bool, true, false, cond, not, ◌&&◌, ◌||◌, refl, ap, ap₂, arith}
use Rattle.std.proofs.lemmas.Bool.{true≢false, false≢true}
use Rattle.blocks.specs.Sums.{sum, bit}
use Rattle.blocks.specs.Sets.{Set, ◌∪◌, ◌∩◌, ◌∖◌, Within, Apart, Same}
use Rattle.blocks.specs.Limits.{limit}
use Rattle.blocks.specs.Yards.{Yard, nodes, pairs}
use Rattle.blocks.proofs.Sums.{sum-le₂, sum-eq₂, sum_le, sum_cong, sum_lt, sum_zero}

abbrev pub yard : ℕ → ℕ → (ℕ → ℕ → Bool) → Yard
yard B P e = record { buses = B; posts = P; paired = e }

-- does the pair (b, p) count in X?
abbrev pub counts : ℕ → (ℕ → ℕ → Bool) → Set → ℕ → ℕ → ℕ
counts B e X b p = bit (e b p && (X b && X (B + p)))

module _ (B P : ℕ) where
  pub pairs-le₂ : (e f g h : ℕ → ℕ → Bool) (W X Y Z : Set)
      → ((b p : ℕ) → b < B → p < P → counts B e W b p + counts B f X b p ≤ counts B g Y b p + counts B h Z b p)
      → pairs (yard B P e) W + pairs (yard B P f) X ≤ pairs (yard B P g) Y + pairs (yard B P h) Z
  unfolding pairs
  pairs-le₂ e f g h W X Y Z le =
      sum-le₂ B (λ b. sum P (counts B e W b)) (λ b. sum P (counts B f X b)) (λ b. sum P (counts B g Y b)) (λ b. sum P (counts B h Z b))
      (λ b w. sum-le₂ P (counts B e W b) (counts B f X b) (counts B g Y b) (counts B h Z b) (λ p v. le b p w v))

  pub pairs_le : (e f : ℕ → ℕ → Bool) (W X : Set)
      → ((b p : ℕ) → b < B → p < P → counts B e W b p ≤ counts B f X b p)
      → pairs (yard B P e) W ≤ pairs (yard B P f) X
  unfolding pairs
  pairs_le e f W X le =
      sum_le B (λ b. sum P (counts B e W b)) (λ b. sum P (counts B f X b))
      (λ b w. sum_le P (counts B e W b) (counts B f X b) (λ p v. le b p w v))

bool_super : (e a b c d : Bool) → bit (e && (a && b)) + bit (e && (c && d)) ≤ bit (e && ((a || c) && (b || d))) + bit (e && ((a && c) && (b && d)))
bool_super e a b c d = grind arith

pub pairs_super : (A : Yard) (X Y : Set) → pairs A X + pairs A Y ≤ pairs A (X ∪ Y) + pairs A (X ∩ Y)
pairs_super A X Y =
    pairs-le₂ A.buses A.posts A.paired A.paired A.paired A.paired X Y (X ∪ Y) (X ∩ Y)
    (λ b p w v. bool_super (A.paired b p) (X b) (X (A.buses + p)) (Y b) (Y (A.buses + p)))

bool_mod : (a c : Bool) (l : ℕ) → cond a l 0 + cond c l 0 ≡ cond (a || c) l 0 + cond (a && c) l 0
bool_mod true true l = refl
bool_mod true false l = refl
bool_mod false true l = omega arith
bool_mod false false l = refl

pub limit_mod : (n : ℕ) (ℓ : ℕ → ℕ) (X Y : Set) → limit n ℓ X + limit n ℓ Y ≡ limit n ℓ (X ∪ Y) + limit n ℓ (X ∩ Y)
unfolding limit
limit_mod n ℓ X Y = sum-eq₂ n _ _ _ _ (λ i w. bool_mod (X i) (Y i) (ℓ i))

-- limits
cond_le : (a : Bool) (k l : ℕ) → k ≤ l → cond a k 0 ≤ cond a l 0
cond_le true k l h = h
cond_le false k l h = omega arith

pub limit_le : (n : ℕ) (ℓ m : ℕ → ℕ) (X : Set) → ((i : ℕ) → i < n → ℓ i ≤ m i) → limit n ℓ X ≤ limit n m X
unfolding limit
limit_le n ℓ m X le = sum_le n _ _ (λ i w. cond_le (X i) (ℓ i) (m i) (le i w))

cond_lt : (a : Bool) (k l : ℕ) → a ≡ true → k < l → cond a k 0 < cond a l 0
cond_lt true k l e h = h
cond_lt false k l e h = absurd (false≢true e)

pub limit_lt : (n : ℕ) (ℓ m : ℕ → ℕ) (X : Set) (k : ℕ) → k < n → X k ≡ true → ((i : ℕ) → i < n → ℓ i ≤ m i) → ℓ k < m k → limit n ℓ X < limit n m X
unfolding limit
limit_lt n ℓ m X k w x le lt = sum_lt n _ _ (λ i v. cond_le (X i) (ℓ i) (m i) (le i v)) k w (cond_lt (X k) (ℓ k) (m k) x lt)

-- what counts is which numbers below n the set holds
pub limit_same : (n : ℕ) (ℓ : ℕ → ℕ) (X Y : Set) → Same n X Y → limit n ℓ X ≡ limit n ℓ Y
unfolding limit
limit_same n ℓ X Y same = sum_cong n _ _ (λ i w. ap (λ t. cond t (ℓ i) 0) (same i w))

pub pairs_same : (A : Yard) (X Y : Set) → Same (nodes A) X Y → pairs A X ≡ pairs A Y
unfolding pairs
pairs_same A X Y same =
    sum_cong A.buses _ _ (λ b w. sum_cong A.posts _ _ (λ p v.
    ap₂ (λ s t. bit (A.paired b p && (s && t))) (same b (omega arith)) (same (A.buses + p) (omega arith))))

cond_split : (a c : Bool) (l : ℕ) → (c ≡ true → a ≡ true) → cond a l 0 + 0 ≡ cond c l 0 + cond (a && not c) l 0
cond_split true true l h = refl
cond_split true false l h = omega arith
cond_split false true l h = absurd (false≢true (h refl))
cond_split false false l h = refl

-- the limits of a set are those of a part and of the rest
pub limit_part : (n : ℕ) (ℓ : ℕ → ℕ) (D U : Set) → Within n U D → limit n ℓ D ≡ limit n ℓ U + limit n ℓ (D ∖ U)
unfolding limit
limit_part n ℓ D U within =
    let split = sum-eq₂ n (λ i. cond (D i) (ℓ i) 0) (λ _. 0) _ _ (λ i w. cond_split (D i) (U i) (ℓ i) (within i w)) in
    omega (arith, sum_zero n)

cond_join : (a c : Bool) (l : ℕ) → (c ≡ true → a ≡ false) → cond (a || c) l 0 + 0 ≡ cond a l 0 + cond c l 0
cond_join true true l h = absurd (true≢false (h refl))
cond_join true false l h = refl
cond_join false true l h = omega arith
cond_join false false l h = refl

pub limit_join : (n : ℕ) (ℓ : ℕ → ℕ) (D U : Set) → Apart n U D → limit n ℓ (D ∪ U) ≡ limit n ℓ D + limit n ℓ U
unfolding limit
limit_join n ℓ D U apart =
    let join = sum-eq₂ n (λ i. cond (D i || U i) (ℓ i) 0) (λ _. 0) (λ i. cond (D i) (ℓ i) 0) (λ i. cond (U i) (ℓ i) 0) (λ i w. cond_join (D i) (U i) (ℓ i) (apart i w)) in
    omega (arith, sum_zero n)

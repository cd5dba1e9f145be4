-- The comparison lemma, and what follows from it: unique, nested, monotone in the pairs.
use Rattle.std.proofs.Common.{◌≡◌, ℕ, ◌+◌, ◌<◌, ◌≤◌, Bool, true, not, ◌&&◌, ◌||◌, inl, inr, le_refl, arith}
use Rattle.std.proofs.lemmas.Bool.{cases_Bool, and_parts, and_from, not-true, not_from_false}
use Rattle.blocks.specs.Sums.{bit}
use Rattle.blocks.specs.Sets.{Set, ◌∪◌, ◌∖◌, Within, Apart, Same}
use Rattle.blocks.specs.Yards.{Yard, nodes, pairs}
use Rattle.blocks.specs.Blocks.{Inside, Outside, Block}
use Rattle.blocks.proofs.Pairs.{yard, pairs-le₂, limit_le}

bool_compare : (e f yb yp db dp : Bool) → (e ≡ true → f ≡ true)
    → bit (e && (yb && yp)) + bit (f && (db && dp))
    ≤ bit (f && ((db || (yb && not db)) && (dp || (yp && not dp)))) + bit (e && ((yb && not (yb && not db)) && (yp && not (yp && not dp))))
bool_compare e f yb yp db dp h = grind arith

-- the two are equal sets of Booleans
pub same_bool : (a b : Bool) → (a ≡ true → b ≡ true) → (b ≡ true → a ≡ true) → a ≡ b
same_bool a b h k = grind arith

pub compare : (B P : ℕ) (e f : ℕ → ℕ → Bool) (ℓ m : ℕ → ℕ) (X D : Set)
    → Inside (B + P) (pairs (yard B P e)) ℓ X → Outside (B + P) (pairs (yard B P f)) m D
    → ((b p : ℕ) → b < B → p < P → e b p ≡ true → f b p ≡ true)
    → ((n : ℕ) → n < B + P → m n ≤ ℓ n)
    → Within (B + P) X D
compare B P e f ℓ m X D inside outside more less n w x = elim (cases_Bool (D n)) [
  | inl d ↦ d
  | inr d ↦
      let within : Within (B + P) (X ∖ D) X = λ k _ h. (and_parts (X k) (not (D k)) h).0 in
      let apart : Apart (B + P) (X ∖ D) D = λ k _ h. not-true (D k) (and_parts (X k) (not (D k)) h).1 in
      let lose = inside (X ∖ D) within n w (and_from (X n) (not (D n)) x (not_from_false (D n) d)) in
      let gain = outside (X ∖ D) apart in
      let lower = limit_le (B + P) m ℓ (X ∖ D) less in
      let points = pairs-le₂ B P e f f e X D (D ∪ (X ∖ D)) (X ∖ (X ∖ D))
      (λ b p v u. bool_compare (e b p) (f b p) (X b) (X (B + p)) (D b) (D (B + p)) (more b p v u)) in
      absurd (omega arith)
]

-- two blocks of one level are one
pub unique : (A : Yard) (ℓ : ℕ → ℕ) (C D : Set) → Block (nodes A) (pairs A) ℓ C → Block (nodes A) (pairs A) ℓ D → Same (nodes A) C D
unique A ℓ C D c d n w =
    same_bool (C n) (D n)
    (compare A.buses A.posts A.paired A.paired ℓ ℓ C D c.inside d.outside (λ _ _ _ _ h. h) (λ n _. le_refl (ℓ n)) n w)
    (compare A.buses A.posts A.paired A.paired ℓ ℓ D C d.inside c.outside (λ _ _ _ _ h. h) (λ n _. le_refl (ℓ n)) n w)

-- where the limits are higher, the block is smaller
pub nested : (A : Yard) (ℓ m : ℕ → ℕ) (C D : Set) → ((n : ℕ) → n < nodes A → m n ≤ ℓ n) → Block (nodes A) (pairs A) ℓ C → Block (nodes A) (pairs A) m D → Within (nodes A) C D
nested A ℓ m C D le c d = compare A.buses A.posts A.paired A.paired ℓ m C D c.inside d.outside (λ _ _ _ _ h. h) le

-- with more pairs, the block is larger
pub monotone : (B P : ℕ) (e f : ℕ → ℕ → Bool) (ℓ : ℕ → ℕ) (C D : Set) → ((b p : ℕ) → b < B → p < P → e b p ≡ true → f b p ≡ true)
    → Block (B + P) (pairs (yard B P e)) ℓ C → Block (B + P) (pairs (yard B P f)) ℓ D → Within (B + P) C D
monotone B P e f ℓ C D more c d = compare B P e f ℓ ℓ C D c.inside d.outside more (λ n _. le_refl (ℓ n))

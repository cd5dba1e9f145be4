-- What a byte is after one of its cells is written, by a computed test over every byte, cell, value and bit.
use Rattle.std.proofs.Common.{◌≡◌, ℕ, zero, suc, ◌+◌, ◌-◌, ◌*◌, ◌/◌, ◌%◌, ◌^◌, ◌<◌, Bool, true, false, cond, T, eqb, refl, ap, ◌∙◌, le_of_suc-le-suc, not-suc-le-zero, arith, eqb→eq, Some, None, Option}
use lib.Bits.{bit_and, bit_or}
use Rattle.std.proofs.lemmas.Bool.{eq-eqb, ne_eqb}
use Rattle.blocks.specs.Sums.{bit}
use Rattle.stores.specs.declared.pairs.Side.{Side}
use Rattle.stores.specs.declared.pairs.Side.TheVariants.{Bus, Post}
use Rattle.stores.specs.Meaning.{stands, by_post}
use Rattle.grids.specs.Cells.{byte_bit, ByteWritten}

abbrev both : Bool → Bool → Bool
both true b = b
both false b = false

both_left : (a b : Bool) → T (both a b) → T a
both_left true b t = tt
both_left false b t = t

both_right : (a b : Bool) → T (both a b) → T b
both_right true b t = t
both_right false b t = absurd t

-- a test that passes at each number below n
abbrev every : (ℕ → Bool) → ℕ → Bool
every f zero = true
every f (suc n) = both (f 0) (every (λ k. f (suc k)) n)

every_at : (f : ℕ → Bool) (n : ℕ) → T (every f n) → (k : ℕ) → k < n → T (f k)
every_at f zero t k h = absurd (not-suc-le-zero h)
every_at f (suc n) t zero h = both_left (f 0) (every (λ k. f (suc k)) n) t
every_at f (suc n) t (suc k) h = every_at (λ k. f (suc k)) n (both_right (f 0) (every (λ k. f (suc k)) n) t) k (le_of_suc-le-suc h)

-- the byte x with the number v in cell k
abbrev written : ℕ → ℕ → ℕ → ℕ
written x k v = bit_or (bit_and x (255 - (3 * 2 ^ (6 - 2 * k)) % 256)) ((v * 2 ^ (6 - 2 * k)) % 256)

-- what its bit j is then
abbrev expected : ℕ → ℕ → ℕ → ℕ → ℕ
expected x k v j = cond (eqb j (2 * k)) (v / 2) (cond (eqb j (2 * k + 1)) (v % 2) (byte_bit x j))

right : ℕ → ℕ → ℕ → ℕ → Bool
right x k v j = eqb (byte_bit (written x k v) j) (expected x k v j)

all_right : T (every (λ x. every (λ k. every (λ v. every (λ j. right x k v j) 8) 4) 4) 256)
unfolding right byte_bit
all_right = tt

written_bit : (x k v j : ℕ) → x < 256 → k < 4 → v < 4 → j < 8 → byte_bit (written x k v) j ≡ expected x k v j
unfolding right
written_bit x k v j hx hk hv hj =
    eqb→eq _ _ (every_at (λ j. right x k v j) 8 (every_at (λ v. every (λ j. right x k v j) 8) 4
    (every_at (λ k. every (λ v. every (λ j. right x k v j) 8) 4) 4
    (every_at (λ x. every (λ k. every (λ v. every (λ j. right x k v j) 8) 4) 4) 256 all_right x hx) k hk) v hv) j hj)

module _ (x k v : ℕ) (hx : x < 256) (hk : k < 4) (hv : v < 4) where
  high_of : byte_bit (written x k v) (2 * k) ≡ v / 2
  high_of = let e = eq-eqb (2 * k) (2 * k) refl in written_bit x k v (2 * k) hx hk hv (omega arith) ∙ simp e

  low_of : byte_bit (written x k v) (2 * k + 1) ≡ v % 2
  low_of =
      let d = ne_eqb (2 * k + 1) (2 * k) (λ e. omega arith) in
      let e = eq-eqb (2 * k + 1) (2 * k + 1) refl in
      written_bit x k v (2 * k + 1) hx hk hv (omega arith) ∙ simp (d, e)

  other_of : (j : ℕ) → j < 8 → (j ≡ 2 * k → ⊥) → (j ≡ 2 * k + 1 → ⊥) → byte_bit (written x k v) j ≡ byte_bit x j
  other_of j hj a b =
      let d = ne_eqb j (2 * k) a in
      let e = ne_eqb j (2 * k + 1) b in
      written_bit x k v j hx hk hv hj ∙ simp (d, e)

abbrev number : Option Side → ℕ
number s = 2 * bit (stands s) + bit (by_post s)

number_small : (s : Option Side) → number s < 4
number_small None = omega arith
number_small (Some Bus) = omega arith
number_small (Some Post) = omega arith

number_high : (s : Option Side) → number s / 2 ≡ bit (stands s)
number_high None = refl
number_high (Some Bus) = refl
number_high (Some Post) = refl

number_low : (s : Option Side) → number s % 2 ≡ bit (by_post s)
number_low None = refl
number_low (Some Bus) = refl
number_low (Some Post) = refl

pub byte_written : (x k v : ℕ) (s : Option Side) → x < 256 → k < 4 → v ≡ 2 * bit (stands s) + bit (by_post s) → ByteWritten x (written x k v) k s
byte_written x k v s hx hk e =
    let small : v < 4 = omega (arith, number_small s) in
    record {
      high = high_of x k v hx hk small ∙ (ap (λ n. n / 2) e ∙ number_high s);
      low = low_of x k v hx hk small ∙ (ap (λ n. n % 2) e ∙ number_low s);
      others = other_of x k v hx hk small;
    }

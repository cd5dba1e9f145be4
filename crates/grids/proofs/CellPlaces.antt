-- Cells among all the bytes: where they are read, and what a write leaves.
use Rattle.std.proofs.Common.{◌≡◌, ℕ, ◌+◌, ◌-◌, ◌*◌, ◌/◌, ◌%◌, ◌^◌, ◌<◌, ◌≤◌, ◌&&◌, ltb, List, get_or, take, drop, sym, ap, ◌∙◌, arith, get_or-drop, get_or-take, Some, None}
use Rattle.std.proofs.lemmas.Bool.{cond-true, and_from, lt-ltb}
use Rattle.blocks.specs.Sums.{sum, bit}
use Rattle.blocks.proofs.Sums.{sum_cong}
use Rattle.stores.specs.Meaning.{stands}
use Rattle.stores.specs.declared.pairs.Side.TheVariants.{Bus, Post}
use Rattle.grids.specs.Cells.{row, byte_bit, bit_at, cell_at, cell_means, meant, row_part, rows_mean}
use Rattle.grids.proofs.ByteBits.{cell_number, bit_small, meant_absent, meant_bus, meant_post}

-- the number of a post's cell in a row
pub number_at : (xs : List ℕ) (p : ℕ) → (get_or xs (p / 4) 0 / 2 ^ (6 - 2 * (p % 4))) % 4 ≡ 2 * bit_at xs (2 * p) + bit_at xs (2 * p + 1)
number_at xs p =
    let high_byte : (2 * p) / 8 ≡ p / 4 = omega arith in
    let low_byte : (2 * p + 1) / 8 ≡ p / 4 = omega arith in
    let high_bit : (2 * p) % 8 ≡ 2 * (p % 4) = omega arith in
    let low_bit : (2 * p + 1) % 8 ≡ 2 * (p % 4) + 1 = omega arith in
    rw (high_byte, low_byte, high_bit, low_bit) (cell_number (get_or xs (p / 4) 0) (p % 4) (omega arith))

-- that number, as the byte is read
abbrev cell : List ℕ → ℕ → ℕ
cell xs p = (get_or xs (p / 4) 0 / 2 ^ (6 - 2 * (p % 4))) % 4

pub read_absent : (xs : List ℕ) (p : ℕ) → cell xs p < 2 → cell_means xs (2 * p) ≡ None
read_absent xs p h = meant_absent (bit_at xs (2 * p)) (bit_at xs (2 * p + 1)) (bit_small _ _) (omega (arith, number_at xs p))

pub read_bus : (xs : List ℕ) (p : ℕ) → cell xs p ≡ 2 → cell_means xs (2 * p) ≡ Some Bus
read_bus xs p h = meant_bus (bit_at xs (2 * p)) (bit_at xs (2 * p + 1)) (bit_small _ _) (omega (arith, number_at xs p))

pub read_post : (xs : List ℕ) (p : ℕ) → 2 ≤ cell xs p → (cell xs p ≡ 2 → ⊥) → cell_means xs (2 * p) ≡ Some Post
read_post xs p h n = meant_post (bit_at xs (2 * p)) (bit_at xs (2 * p + 1)) (bit_small _ _) (omega (arith, number_at xs p)) (bit_small _ _)

-- a post's byte lies in the row
pub in_row : (p P : ℕ) → p < P → p / 4 < row P
in_row p P h = omega arith

-- a bit of a part is a bit of the whole
bit_part : (xs : List ℕ) (s w n : ℕ) → n < 8 * w → bit_at (take w (drop s xs)) n ≡ bit_at xs (8 * s + n)
bit_part xs s w n h =
    let at_byte : (8 * s + n) / 8 ≡ s + n / 8 = omega arith in
    let at-bit : (8 * s + n) % 8 ≡ n % 8 = omega arith in
    let within : n / 8 < w = omega arith in
    rw (at_byte, at-bit) (ap (λ x. byte_bit x (n % 8)) (get_or-take w (drop s xs) (n / 8) 0 within ∙ get_or-drop s xs (n / 8) 0))

-- a cell of a row is that cell of the whole
pub row_cell : (xs : List ℕ) (P b p : ℕ) → p < P → cell_means (row_part xs P b) (2 * p) ≡ cell_means xs (cell_at P b p)
row_cell xs P b p h =
    let e : 8 * (b * row P) + (2 * p + 1) ≡ cell_at P b p + 1 = omega arith in
    let high = bit_part xs (b * row P) (row P) (2 * p) (omega arith) in
    let low = bit_part xs (b * row P) (row P) (2 * p + 1) (omega arith) ∙ ap (bit_at xs) e in
    ap (λ x. meant x (bit_at (row_part xs P b) (2 * p + 1))) high ∙ ap (λ y. meant (bit_at xs (cell_at P b p)) y) low

-- the count of a row, read by itself
pub row_count : (xs : List ℕ) (B P b : ℕ) → b < B → sum P (λ p. bit (stands (cell_means (row_part xs P b) (2 * p)))) ≡ sum P (λ p. bit (stands ((rows_mean xs B P).standing b p)))
row_count xs B P b hb =
    sum_cong P (λ p. bit (stands (cell_means (row_part xs P b) (2 * p)))) (λ p. bit (stands ((rows_mean xs B P).standing b p)))
    (λ p hp. ap (λ s. bit (stands s)) (row_cell xs P b p hp
    ∙ sym (cond-true (ltb b B && ltb p P) _ _ (and_from (ltb b B) (ltb p P) (lt-ltb b B hb) (lt-ltb p P hp)))))

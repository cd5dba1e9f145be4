-- The bits of one byte, by cells of two.
use Rattle.std.proofs.Common.{◌≡◌, ℕ, zero, suc, ◌+◌, ◌-◌, ◌*◌, ◌/◌, ◌%◌, ◌^◌, ◌<◌, ◌≤◌, arith, Some, None}
use Rattle.std.proofs.lemmas.Bool.Decides.{nat_tests}
use Rattle.stores.specs.declared.pairs.Side.TheVariants.{Bus, Post}
use Rattle.grids.specs.Cells.{byte_bit, meant}

-- four cells to a byte
pub each_cell : (P : ℕ → Type 0) → P 0 → P 1 → P 2 → P 3 → (k : ℕ) → k < 4 → P k
each_cell P a b c d zero h = a
each_cell P a b c d (suc zero) h = b
each_cell P a b c d (suc (suc zero)) h = c
each_cell P a b c d (suc (suc (suc zero))) h = d
each_cell P a b c d (suc (suc (suc (suc k)))) h = absurd (omega arith)

-- a cell as a number: its high bit twice, and its low bit
pub cell_number : (x k : ℕ) → k < 4 → (x / 2 ^ (6 - 2 * k)) % 4 ≡ 2 * byte_bit x (2 * k) + byte_bit x (2 * k + 1)
unfolding byte_bit
cell_number x k h =
    each_cell (λ k. (x / 2 ^ (6 - 2 * k)) % 4 ≡ 2 * ((x / 2 ^ (7 - 2 * k)) % 2) + (x / 2 ^ (7 - (2 * k + 1))) % 2)
    (omega arith) (omega arith) (omega arith) (omega arith) k h

-- a bit is 0 or 1
pub bit_small : (x j : ℕ) → byte_bit x j ≤ 1
unfolding byte_bit
bit_small x j = omega arith

-- what the number of a cell says of its meaning
pub meant_absent : (h l : ℕ) → l ≤ 1 → 2 * h + l < 2 → meant h l ≡ None
meant_absent h l u v = grind (arith, nat_tests)

pub meant_bus : (h l : ℕ) → l ≤ 1 → 2 * h + l ≡ 2 → meant h l ≡ (Some Bus)
meant_bus h l u v = grind (arith, nat_tests)

pub meant_post : (h l : ℕ) → l ≤ 1 → 2 < 2 * h + l → h ≤ 1 → meant h l ≡ (Some Post)
meant_post h l u v w = grind (arith, nat_tests)

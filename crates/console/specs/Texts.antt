-- Parts of a text, and the zeros behind it.
use Rattle.std.specs.Prelude.{◌≡◌, ℕ, ◌-◌, ◌^◌, ◌<◌, List, [], ◌∷◌, ◌++◌, length, replicate, decimal, ◌≢◌, slice_index, slice_index_or}
use Rattle.console.specs.Grammar.{weighed, DigitsOnly}

-- numbers, each after one space
abbrev pub spaced : List ℕ → List ℕ
spaced [] = []
spaced (n ∷ ns) = 32 ∷ decimal n ++ spaced ns

-- no byte is zero
abbrev pub Zeroless : List ℕ → Type 0
Zeroless bytes = (k : ℕ) → k < length bytes → slice_index bytes k ≢ 0

-- a text with zeros behind, size bytes in all
abbrev pub padded : ℕ → List ℕ → List ℕ
padded size bytes = bytes ++ replicate (size - length bytes) 0

-- what `decimal` writes: digits whose value is the number, and no leading zero
pub record WrittenOut (n : ℕ) : Type 0 where
  pub some : 0 < length (decimal n)
  pub digits : DigitsOnly (decimal n)
  pub value : weighed (decimal n) ≡ n
  pub leading : slice_index_or (decimal n) 0 0 ≡ 48 → length (decimal n) ≡ 1

abbrev pub DecimalsStand : Type 0
DecimalsStand = (n : ℕ) → n < 2 ^ 64 → WrittenOut n

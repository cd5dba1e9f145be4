-- An input taken apart into lines, and a field without its zeros.
use Rattle.std.specs.Prelude.{◌≡◌, ℕ, ◌+◌, ◌<◌, ◌≤◌, ◌⊎◌, List, ◌++◌, length, take, drop, replicate, Some, None, Option, ◌≢◌, slice_index}
use Rattle.std.specs.Borrow.{Bor}
use Rattle.console.specs.Texts.{Zeroless}

-- A line stands from one place up to another: no byte 10 is in it, and it is ended by a byte 10 within the first 65,536 bytes or by the end of an input that was not cut.
pub record Line (input : List ℕ) (from to : ℕ) : Type 0 where
  pub begins : from < length input
  pub forward : from ≤ to
  pub plain : (k : ℕ) → from ≤ k → k < to → slice_index input k ≢ 10
  pub ended : ((to < 65536) × (to < length input) × (slice_index input to ≡ 10)) ⊎ ((to ≡ length input) × (length input < 65536))

-- the line that begins at a place, or none where none does
abbrev pub Next : List ℕ → ℕ → Option (Bor (List ℕ)) → Type 0
Next input from None = (to : ℕ) → Line input from to → ⊥
Next input from (Some line) = Line input from (from + length line.now) × (line.now ≡ take (length line.now) (drop from input))

-- the bytes of a field before its first zero; so, whatever text without a zero the field holds before its zeros
pub record Shown (field bytes : List ℕ) : Type 0 where
  pub front : bytes ≡ take (length bytes) field
  pub zeroless : Zeroless bytes
  pub stops : length bytes < length field → slice_index field (length bytes) ≡ 0
  pub whole : (text : List ℕ) (zeros : ℕ) → Zeroless text → field ≡ text ++ replicate zeros 0 → bytes ≡ text

-- Sums over the numbers below n: every count of the subject is one.
use Rattle.std.specs.Prelude.{ℕ, zero, suc, ◌+◌, Bool, true, false}

-- sum n f = f 0 + … + f (n − 1)
unfoldable pub sum : ℕ → (ℕ → ℕ) → ℕ
sum zero f = 0
sum (suc n) f = sum n f + f n

-- what a test counts for
abbrev pub bit : Bool → ℕ
bit true = 1
bit false = 0

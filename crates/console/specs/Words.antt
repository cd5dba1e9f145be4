-- The text that an answer is printed as.
use Rattle.std.specs.Prelude.{◌≡◌, ℕ, ◌≤◌, List, [], ◌∷◌, ◌++◌, length, codes, decimal, Result, Ok, Err}
use Rattle.std.specs.Fmt.{signed_decimal}
use Rattle.console.specs.Faults.{line_number, layer, held}
use Rattle.console.specs.Texts.{spaced, padded, Zeroless}
use Rattle.console.specs.declared.answers.Answer.{Answer}
use Rattle.console.specs.declared.answers.Answer.TheVariants.{Done, Rank, Block, Shortfall}
use Rattle.console.specs.declared.faults.LineFault.{LineFault}

-- what a line is answered, unless it is refused
abbrev pub words : Answer → List ℕ
words Done = codes "ok"
words (Rank n) = codes "rank " ++ signed_decimal n
words (Block b p) = codes "block" ++ spaced (b ∷ p ∷ [])
words (Shortfall n) = codes "short" ++ spaced (n ∷ [])

-- an answer, or the refusal
abbrev pub printed : Result Answer LineFault → List ℕ
printed (Ok a) = words a
printed (Err f) = codes "no " ++ layer f ++ spaced (line_number f ∷ held f)

-- the answer to a line: its number, a space, the words, byte 10
abbrev pub text : ℕ → Result Answer LineFault → List ℕ
text line r = decimal line ++ 32 ∷ printed r ++ 10 ∷ []

-- The answer to a line is printed: its text, and zeros up to 64 bytes. The text fits, and has no zero of its own.
pub record Printed (line : ℕ) (r : Result Answer LineFault) (bytes : List ℕ) : Type 0 where
  pub field : bytes ≡ padded 64 (text line r)
  pub fits : length (text line r) ≤ 64
  pub zeroless : Zeroless (text line r)

-- The pair file: one record of four bytes for each standing pair, ascending by bus, then post.
use Rattle.std.specs.Prelude.{◌≡◌, ℕ, zero, suc, ◌+◌, ◌*◌, ◌/◌, ◌%◌, ◌^◌, Bool, cond, List, [], ◌∷◌, ◌++◌, length, take, drop, Some, None, Ok, Option, Result, nat_lt}
use Rattle.blocks.specs.Sums.{sum, bit}
use Rattle.blocks.specs.Limits.{Limits}
use Rattle.blocks.specs.Yards.{Yard, nodes}
use Rattle.stores.specs.Meaning.{Meaning, stands, by_post}
use Rattle.stores.specs.declared.pairs.Side.{Side}
use Rattle.table.specs.declared.faults.TableFault.{TableFault}
use Rattle.table.specs.declared.faults.TableFault.TheVariants.{Bytes, Output}
use Rattle.table.specs.Yards.{yard_of}
use Rattle.table.specs.Evening.{EvenSides}
use Rattle.table.specs.Calls.{Model, model_of, first, ◌⇒◌, Refused}

-- 32 bits: nine of the bus, nine of the post, one that says whether the post carries the pair, and 13 that are zero
abbrev pub word : ℕ → ℕ → Bool → ℕ
word b p by = b * 2 ^ 23 + p * 2 ^ 14 + bit by * 2 ^ 13

-- most significant first
abbrev pub four_bytes : ℕ → List ℕ
four_bytes w = (w / 2 ^ 24 % 256) ∷ (w / 2 ^ 16 % 256) ∷ (w / 2 ^ 8 % 256) ∷ (w % 256) ∷ []

-- what the file has of one pair: its record, or nothing if it does not stand
abbrev pub entry : ℕ → ℕ → Option Side → List ℕ
entry b p s = cond (stands s) (four_bytes (word b p (by_post s))) []

-- the records of the bus b with the posts below n, and of all buses below n
unfoldable pub row : Meaning → ℕ → ℕ → List ℕ
row m b zero = []
row m b (suc p) = row m b p ++ entry b p (m.standing b p)

unfoldable pub rows : Meaning → ℕ → List ℕ
rows m zero = []
rows m (suc b) = rows m b ++ row m b m.posts

abbrev pub pair_file : Meaning → List ℕ
pair_file m = rows m m.buses

-- how many pairs stand
abbrev pub pair_count : Yard → ℕ
pair_count Y = sum Y.buses (λ b. sum Y.posts (λ p. bit (Y.paired b p)))

-- how many pairs of the bus b stand with the posts below n
abbrev pub row_count : Meaning → ℕ → ℕ → ℕ
row_count m b n = sum n (λ p. bit (stands (m.standing b p)))

-- more was written into an output from a place on; what stood before that place and behind what was written stays
pub record Wrote (out : List ℕ) (at : ℕ) (more : List ℕ) (out' : List ℕ) (at' : ℕ) : Type 0 where
  pub grown : at' ≡ at + length more
  pub front : take at' out' ≡ take at out ++ more
  pub behind : drop at' out' ≡ drop at' out

-- the refusal of a pair file over so many working bytes and an output of so many bytes, if any
abbrev pub file_refusal : Model → ℕ → ℕ → Option TableFault
file_refusal M bytes len =
    first (nat_lt bytes (nodes M.yard) ⇒ Bytes bytes ∷ nat_lt len (4 * pair_count M.yard) ⇒ Output len ∷ [])

-- written: the sides are even, no pair has changed, and the output begins with the file, whose length is the answer
pub record FileMade (L : Limits) (m n : Meaning) (room room' : ℕ) (out out' : List ℕ) (r : Result ℕ TableFault) : Type 0 where
  pub answered : r ≡ Ok (length (pair_file n))
  pub bytes : out' ≡ pair_file n ++ drop (length (pair_file n)) out
  pub count : length (pair_file n) ≡ 4 * pair_count (yard_of n)
  pub model : model_of n room' ≡ model_of m room
  pub even : EvenSides n L
  pub sides : EvenSides m L → n ≡ m

-- refused by the first reason that applies, with nothing written and nothing changed; else written
pub record FilePromised (L : Limits) (bytes : ℕ) (m n : Meaning) (room room' : ℕ) (out out' : List ℕ) (r : Result ℕ TableFault) : Type 0 where
  pub refused : (f : TableFault) → file_refusal (model_of m room) bytes (length out) ≡ Some f → Refused m n room room' f r × (out' ≡ out)
  pub accepted : file_refusal (model_of m room) bytes (length out) ≡ None → FileMade L m n room room' out out' r

-- Which command a line spells, and which lines spell none.
use Rattle.std.specs.Prelude.{◌≡◌, ℕ, ◌+◌, ◌-◌, ◌*◌, ◌^◌, ◌<◌, ◌≤◌, List, [], ◌∷◌, ◌++◌, length, Ok, Err, Result, slice_index, slice_index_or}
use Rattle.std.specs.Int.{IsInRange}
use Rattle.console.specs.declared.commands.Command.{Command}
use Rattle.console.specs.declared.commands.Command.TheVariants.{Open, Add, Drop, BusRank, PostRank, Block, Shortfall}
use Rattle.console.specs.declared.faults.LineFault.{LineFault}
use Rattle.console.specs.declared.faults.LineFault.TheVariants.{Unreadable, Fields as wrong_fields, OutOfOrder, OutOfRange, Table}

-- the value of decimal digits, each by the weight of its place
abbrev pub weighed : List ℕ → ℕ
weighed [] = 0
weighed (c ∷ cs) = (c - 48) * 10 ^ length cs + weighed cs

-- every byte is a digit, 0 to 9
abbrev pub DigitsOnly : List ℕ → Type 0
DigitsOnly ds = (i : ℕ) → i < length ds → IsInRange 48 57 (slice_index ds i)

-- the bytes are the number n: one to five digits, and no leading zero unless it stands alone
pub record Number (ds : List ℕ) (n : ℕ) : Type 0 where
  pub some : 0 < length ds
  pub few : length ds ≤ 5
  pub digits : DigitsOnly ds
  pub leading : slice_index_or ds 0 0 ≡ 48 → length ds ≡ 1
  pub value : weighed ds ≡ n
  pub fits : n ≤ 65535

-- the bytes are these numbers, with one space between neighbours; every command has one at least
abbrev pub Fields : List ℕ → List ℕ → Type 0
Fields bytes [] = ⊥
Fields bytes (n ∷ []) = Number bytes n
Fields bytes (n ∷ m ∷ ns) = (ds : List ℕ) × (rest : List ℕ) × (bytes ≡ ds ++ 32 ∷ rest) × Number ds n × Fields rest (m ∷ ns)

-- t a d b p k s
abbrev pub letter : Command → ℕ
letter (Open b p l) = 116
letter (Add q) = 97
letter (Drop q) = 100
letter (BusRank b) = 98
letter (PostRank p) = 112
letter (Block l) = 107
letter (Shortfall l) = 115

abbrev pub numbers : Command → List ℕ
numbers (Open b p l) = b ∷ p ∷ l ∷ []
numbers (Add q) = q.bus ∷ q.post ∷ []
numbers (Drop q) = q.bus ∷ q.post ∷ []
numbers (BusRank b) = b ∷ []
numbers (PostRank p) = p ∷ []
numbers (Block l) = l ∷ []
numbers (Shortfall l) = l ∷ []

-- at most 40 bytes, the first of them the letter of a command
pub record Readable (line : List ℕ) : Type 0 where
  pub some : 0 < length line
  pub short : length line ≤ 40
  pub known : (c : Command) × (letter c ≡ slice_index line 0)

-- a line spells a command: its letter, a space, its numbers
pub record Spells (line : List ℕ) (c : Command) : Type 0 where
  pub short : length line ≤ 40
  pub fields : List ℕ
  pub split : line ≡ letter c ∷ 32 ∷ fields
  pub spelled : Fields fields (numbers c)

-- what a line means: the command that it spells, or why it spells none
abbrev pub Reads : List ℕ → Result Command LineFault → Type 0
Reads line (Ok c) = Spells line c
Reads line (Err Unreadable) = Readable line → ⊥
Reads line (Err wrong_fields) = Readable line × ((c : Command) → Spells line c → ⊥)
Reads line (Err OutOfOrder) = ⊥
Reads line (Err OutOfRange) = ⊥
Reads line (Err (Table f)) = ⊥

-- a line has one meaning
abbrev pub OneMeaning : Type 0
OneMeaning = (line : List ℕ) (r s : Result Command LineFault) → Reads line r → Reads line s → r ≡ s

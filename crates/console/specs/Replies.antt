-- What the console answers.
use Rattle.std.specs.Prelude.{◌≡◌, ℕ, ◌+◌, ◌-◌, ◌^◌, ◌≤◌, min, List, Ok, Err, Result}
use Rattle.console.specs.Grammar.{Reads}
use Rattle.console.specs.Words.{Printed}
use Rattle.console.specs.declared.answers.Answer.{Answer}
use Rattle.console.specs.declared.commands.Command.{Command}
use Rattle.console.specs.declared.commands.Command.TheVariants.{Open, Add, Drop, BusRank, PostRank, Block, Shortfall}
use Rattle.console.specs.declared.faults.LineFault.{LineFault}
use Rattle.console.specs.declared.faults.LineFault.TheVariants.{OutOfOrder, OutOfRange}

-- sizes of 1 to 256 and a limit of at most 255; the other commands name none
abbrev pub InRange : Command → Type 0
InRange (Open b p l) = (1 ≤ b) × (b ≤ 256) × (1 ≤ p) × (p ≤ 256) × (l ≤ 255)
InRange (Add q) = Unit {0}
InRange (Drop q) = Unit {0}
InRange (BusRank b) = Unit {0}
InRange (PostRank p) = Unit {0}
InRange (Block l) = Unit {0}
InRange (Shortfall l) = Unit {0}

-- a command is performed: no table can be opened yet, so that each is refused
pub record Performed (c : Command) (r : Result Answer LineFault) : Type 0 where
  pub out_of_range : (InRange c → ⊥) → r ≡ Err OutOfRange
  pub no_table : InRange c → r ≡ Err OutOfOrder

-- what comes of a line's meaning
abbrev pub Follows : Result Command LineFault → Result Answer LineFault → Type 0
Follows (Ok c) r = Performed c r
Follows (Err f) r = r ≡ Err f

-- a line is read, and performed or refused
pub record Replied (line : List ℕ) (r : Result Answer LineFault) : Type 0 where
  pub meaning : Result Command LineFault
  pub reads : Reads line meaning
  pub follows : Follows meaning r

-- a line is counted, as far as the counter goes, and answered under its number
pub record Answered (line : List ℕ) (before after : ℕ) (bytes : List ℕ) : Type 0 where
  pub reply : Result Answer LineFault
  pub replied : Replied line reply
  pub counted : after ≡ min (before + 1) (2 ^ 32 - 1)
  pub field : Printed after reply bytes

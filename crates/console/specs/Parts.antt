-- What the parts of the line reader promise.
use Rattle.std.specs.Prelude.{◌≡◌, ℕ, ◌<◌, List, ◌∷◌, ◌++◌, length, Ok, Err, Option, Result, MatchOption, ◌≢◌, slice_index}
use Rattle.std.specs.Borrow.{Bor}
use Rattle.console.specs.Grammar.{Fields as fields, letter, numbers}
use Rattle.console.specs.declared.commands.Command.{Command}
use Rattle.console.specs.declared.faults.LineFault.{LineFault}
use Rattle.console.specs.declared.faults.LineFault.TheVariants.{Unreadable, Fields, OutOfOrder, OutOfRange, Table}

-- none of the bytes is a space
abbrev pub Spaceless : List ℕ → Type 0
Spaceless bytes = (i : ℕ) → i < length bytes → slice_index bytes i ≢ 32

-- cut at the first space, or whole where there is none
abbrev pub Cut : List ℕ → List ℕ → Option (Bor (List ℕ)) → Type 0
Cut bytes first rest = Spaceless first × MatchOption rest (bytes ≡ first) (λ behind. bytes ≡ first ++ 32 ∷ behind.now)

-- refused: the bytes are not count numbers
pub record Refuses (bytes : List ℕ) (count : ℕ) (e : LineFault) : Type 0 where
  pub fault : e ≡ Fields
  pub wrong : (ns : List ℕ) → length ns ≡ count → fields bytes ns → ⊥

-- what a first letter means, with the fields behind it
abbrev pub Chosen : ℕ → List ℕ → Result Command LineFault → Type 0
Chosen l bytes (Ok c) = (letter c ≡ l) × fields bytes (numbers c)
Chosen l bytes (Err Unreadable) = (c : Command) → letter c ≢ l
Chosen l bytes (Err Fields) = ((c : Command) × (letter c ≡ l)) × ((c : Command) → letter c ≡ l → fields bytes (numbers c) → ⊥)
Chosen l bytes (Err OutOfOrder) = ⊥
Chosen l bytes (Err OutOfRange) = ⊥
Chosen l bytes (Err (Table f)) = ⊥

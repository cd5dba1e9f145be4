-- What is looked at before a call may turn a side.
use Rattle.std.specs.Prelude.{◌≡◌, ℕ, ◌<◌, ◌≤◌, Some, None, Ok, Err, Result}
use Rattle.stores.specs.Meaning.{Meaning}
use Rattle.stores.specs.declared.faults.StoreFault.{StoreFault}
use Rattle.table.specs.declared.faults.TableFault.{TableFault}
use Rattle.table.specs.declared.faults.TableFault.TheVariants.{Level, Bytes, Store}
use Rattle.table.specs.declared.calls.Call.{Call}
use Rattle.table.specs.Levels.{size}
use Rattle.table.specs.Calls.{Model, first, reasons}

-- the number of nodes, or a refusal by too few working bytes
abbrev pub Enough : Meaning → ℕ → Result ℕ TableFault → Type 0
Enough m bytes (Ok n) = (size m ≤ bytes) × (n ≡ size m)
Enough m bytes (Err f) = (bytes < size m) × (f ≡ Bytes bytes)

-- a level of at most 255, or its refusal
abbrev pub LevelTaken : ℕ → Result (Unit {0}) TableFault → Type 0
LevelTaken a (Ok u) = a ≤ 255
LevelTaken a (Err f) = (255 < a) × (f ≡ Level a)

-- no reason stands against a call over working bytes enough, or the first that does
abbrev pub Checked : Model → Call → Result (Unit {0}) StoreFault → Type 0
Checked M c (Ok u) = first (reasons M c) ≡ None
Checked M c (Err f) = first (reasons M c) ≡ Some (Store f)

-- The number of each line fault, the layer in which it arose, and what it holds.
use Rattle.std.specs.Prelude.{ℕ, List, [], ◌∷◌, codes}
use Rattle.stores.specs.Faults.{named_bus, named_post}
use Rattle.table.specs.Faults.{table_fault_number}
use Rattle.table.specs.declared.faults.TableFault.{TableFault}
use Rattle.table.specs.declared.faults.TableFault.TheVariants.{Level, Bytes, Node, Output, Store}
use Rattle.console.specs.declared.faults.LineFault.{LineFault}
use Rattle.console.specs.declared.faults.LineFault.TheVariants.{Unreadable, Fields, OutOfOrder, OutOfRange, Table}

abbrev pub line_number : LineFault → ℕ
line_number Unreadable = 31
line_number Fields = 32
line_number OutOfOrder = 33
line_number OutOfRange = 34
line_number (Table f) = table_fault_number f

abbrev pub table_fault_layer : TableFault → List ℕ
table_fault_layer (Level l) = codes "table"
table_fault_layer (Bytes n) = codes "table"
table_fault_layer (Node n) = codes "table"
table_fault_layer (Output n) = codes "table"
table_fault_layer (Store f) = codes "store"

-- the word of the layer in which a fault arose
abbrev pub layer : LineFault → List ℕ
layer Unreadable = codes "line"
layer Fields = codes "line"
layer OutOfOrder = codes "line"
layer OutOfRange = codes "line"
layer (Table f) = table_fault_layer f

abbrev pub table_held : TableFault → List ℕ
table_held (Level l) = l ∷ []
table_held (Bytes n) = n ∷ []
table_held (Node n) = n ∷ []
table_held (Output n) = n ∷ []
table_held (Store f) = named_bus f ∷ named_post f ∷ []

-- the numbers that a fault holds
abbrev pub held : LineFault → List ℕ
held Unreadable = []
held Fields = []
held OutOfOrder = []
held OutOfRange = []
held (Table f) = table_held f

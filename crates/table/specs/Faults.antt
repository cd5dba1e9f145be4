-- The number of each table fault.
use Rattle.std.specs.Prelude.{ℕ}
use Rattle.stores.specs.Faults.{store_fault_number}
use Rattle.table.specs.declared.faults.TableFault.{TableFault}
use Rattle.table.specs.declared.faults.TableFault.TheVariants.{Level, Bytes, Node, Output, Store}

abbrev pub table_fault_number : TableFault → ℕ
table_fault_number (Level l) = 21
table_fault_number (Bytes n) = 22
table_fault_number (Node n) = 23
table_fault_number (Output n) = 24
table_fault_number (Store f) = store_fault_number f

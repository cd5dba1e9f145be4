-- The number of each store fault, and what it holds.
use Rattle.std.specs.Prelude.{ℕ}
use Rattle.stores.specs.declared.pairs.Pair.{Pair}
use Rattle.stores.specs.declared.faults.StoreFault.{StoreFault}
use Rattle.stores.specs.declared.faults.StoreFault.TheVariants.{NoBus, NoPost, Stands, Absent, Full}

abbrev pub store_fault_number : StoreFault → ℕ
store_fault_number (NoBus q) = 11
store_fault_number (NoPost q) = 12
store_fault_number (Stands q) = 13
store_fault_number (Absent q) = 14
store_fault_number (Full q) = 15

-- the pair that was named
abbrev pub named_pair : StoreFault → Pair
named_pair (NoBus q) = q
named_pair (NoPost q) = q
named_pair (Stands q) = q
named_pair (Absent q) = q
named_pair (Full q) = q

-- its bus and its post
abbrev pub named_bus : StoreFault → ℕ
named_bus f = (named_pair f).bus

abbrev pub named_post : StoreFault → ℕ
named_post f = (named_pair f).post

use Rattle.std.proofs.Common.{◌≡◌, ℕ, ◌≤◌, length, get_or, take}
use Rattle.table.specs.declared.calls.Entry.{Entry}
use Rattle.table.specs.Evening.{EvenSides}
use Rattle.table.specs.Calls.{model_of}
use Rattle.table.specs.Lists.{held, Run}
use Rattle.table.proofs.tables.Table.run.Given as goal

abbrev pub invariant-loop-entry : goal.invariant-loop-entry
invariant-loop-entry g l =
    (length l.bytes ≡ 512) × (l.self.rule ≡ l.initial.self.rule) × EvenSides (g.S.View.means l.self.store) (g.R.Rule.limits l.self.rule) ×
    Run (g.R.Rule.limits l.initial.self.rule) (model_of (g.S.View.means l.initial.self.store) (g.S.Store.room l.initial.self.store))
    (held (g.S.View.means l.initial.self.store) (g.S.Store.room l.initial.self.store)) (take l.entry-index l.fn.entries) (take l.entry-index l.entry-items)
    (model_of (g.S.View.means l.self.store) (g.S.Store.room l.self.store)) (held (g.S.View.means l.self.store) (g.S.Store.room l.self.store)) ×
    ((k : ℕ) (d : Entry) → l.entry-index ≤ k → get_or l.entry-items k d ≡ get_or l.fn.entries k d)

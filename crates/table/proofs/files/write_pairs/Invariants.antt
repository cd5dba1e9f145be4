use Rattle.table.specs.Files.{rows, Wrote}
use Rattle.table.proofs.files.write_pairs.Given as goal

abbrev pub invariant-loop-bus : goal.invariant-loop-bus
invariant-loop-bus g l = Wrote l.initial.out 0 (rows (g.S.View.means l.view) l.bus) l.out l.end

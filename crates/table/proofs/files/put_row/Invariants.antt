use Rattle.table.specs.Files.{row, Wrote}
use Rattle.table.proofs.files.put_row.Given as goal

abbrev pub invariant-loop-post : goal.invariant-loop-post
invariant-loop-post g l = Wrote l.initial.out l.at (row (g.S.View.means l.view) l.bus l.post) l.out l.end

use Rattle.std.proofs.Common.{sym}
use Rattle.grids.proofs.CellPlaces.{read_absent, read_bus, read_post}
use Rattle.grids.proofs.read_cell.Goals as goal

pub returns-then-cell-lt2 : goal.returns-then-cell-lt2
returns-then-cell-lt2 c = sym (read_absent c.args.row.now c.args.post (rw (← c.from.ensures) c.if-cell-lt2.true))

pub returns-then-cell-eq2 : goal.returns-then-cell-eq2
returns-then-cell-eq2 c = sym (read_bus c.args.row.now c.args.post (rw (← c.from.ensures) c.if-cell-eq2.true))

pub returns-else-cell-eq2 : goal.returns-else-cell-eq2
returns-else-cell-eq2 c = sym (read_post c.args.row.now c.args.post (rw (← c.from.ensures) c.if-cell-lt2.false) (rw (← c.from.ensures) c.if-cell-eq2.false))

use Rattle.std.proofs.Common.{◌%◌, arith}
use Rattle.grids.proofs.CellWrites.{byte_written}
use Rattle.grids.proofs.with_cell.Goals as goal

pub returns : goal.returns
returns c = byte_written c.args.byte (c.args.post % 4) c.cell_bits.result c.args.standing (omega arith) (omega arith) c.cell_bits.ensures

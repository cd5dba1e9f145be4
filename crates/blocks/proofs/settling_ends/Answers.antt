use Rattle.blocks.proofs.Turning.{even_sides_exist}
use Rattle.blocks.proofs.Yards.{settling_ends_lem}
use Rattle.blocks.proofs.settling_ends.Goals as goal

pub returns : goal.returns
returns c = record { exist = even_sides_exist; falls = settling_ends_lem }

use Rattle.blocks.proofs.Yards.{sides_tell_block, sides_tell_shortfall}
use Rattle.blocks.proofs.even_sides_tell_block_and_shortfall.Goals as goal

pub returns : goal.returns
returns c = record { block = sides_tell_block; shortfall = sides_tell_shortfall }

use Rattle.blocks.proofs.Ranks.{rank_tells}
use Rattle.blocks.proofs.rank_tells_the_blocks.Goals as goal

pub returns : goal.returns
returns c = rank_tells

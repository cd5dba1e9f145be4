use Rattle.blocks.proofs.Posts.{top_empty}
use Rattle.blocks.proofs.no_block_is_left_at_the_top.Goals as goal

pub returns : goal.returns
returns c = top_empty

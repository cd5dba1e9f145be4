use Rattle.blocks.proofs.Updates.{ranks_added, ranks_dropped}
use Rattle.blocks.proofs.a_pair_moves_one_common_rank.Goals as goal

pub returns : goal.returns
returns c = record { added = ranks_added; dropped = ranks_dropped }

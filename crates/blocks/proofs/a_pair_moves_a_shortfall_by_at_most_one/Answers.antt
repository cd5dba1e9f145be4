use Rattle.blocks.proofs.Updates.{shortfall_added, shortfall_dropped}
use Rattle.blocks.proofs.a_pair_moves_a_shortfall_by_at_most_one.Goals as goal

pub returns : goal.returns
returns c = record { added = shortfall_added; dropped = shortfall_dropped }

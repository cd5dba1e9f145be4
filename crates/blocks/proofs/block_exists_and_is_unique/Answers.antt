use Rattle.blocks.proofs.Exists.{exists}
use Rattle.blocks.proofs.Compare.{unique}
use Rattle.blocks.proofs.block_exists_and_is_unique.Goals as goal

pub returns : goal.returns
returns c = record { exists = exists; unique = unique }

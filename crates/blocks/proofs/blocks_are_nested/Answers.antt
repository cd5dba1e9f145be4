use Rattle.blocks.proofs.Levels.{level_nested}
use Rattle.blocks.proofs.blocks_are_nested.Goals as goal

pub returns : goal.returns
returns c = level_nested

use Rattle.blocks.proofs.Exists.{shortfall_is}
use Rattle.blocks.proofs.Shortfalls.{shortfall_unique}
use Rattle.blocks.specs.Yards.{nodes, pairs}
use Rattle.blocks.proofs.shortfall_is_the_largest_excess.Goals as goal

pub returns : goal.returns
returns c = record { largest = shortfall_is; unique = λ A. shortfall_unique (nodes A) (pairs A) }

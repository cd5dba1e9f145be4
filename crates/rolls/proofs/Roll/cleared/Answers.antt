use Rattle.std.proofs.Common.{refl}
use Rattle.rolls.specs.Rolls.{standing}
use Rattle.rolls.proofs.Roll.cleared.Goals as goal

pub returns-clause-means : goal.returns-clause-means
unfolding standing
returns-clause-means c = rw c.new.ensures refl

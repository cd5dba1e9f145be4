use Rattle.console.proofs.Room.{decimals_stand_lem}
use Rattle.console.proofs.printing.decimals_stand.Goals as goal

pub returns : goal.returns
returns c = decimals_stand_lem

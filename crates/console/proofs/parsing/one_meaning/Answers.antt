use Rattle.console.proofs.Readings.{one_meaning_lem}
use Rattle.console.proofs.parsing.one_meaning.Goals as goal

pub returns : goal.returns
returns c = one_meaning_lem

use Rattle.std.proofs.Common.{arith}
use Rattle.rolls.proofs.Changes.{gap_absent, here_carried}
use Rattle.rolls.proofs.RollView.stands.Goals as goal

pub returns-in-Ok : goal.returns-in-Ok
returns-in-Ok c =
    let side = here_carried _ c.args.self.now.ascending c.args.pair _ c.in-Ok.ensures in
    grind (arith, side, c.deref.ensures.0)

pub returns-in-Err : goal.returns-in-Err
returns-in-Err c =
    let absent = gap_absent _ c.args.pair _ c.in-Err.ensures in
    grind (arith, absent)

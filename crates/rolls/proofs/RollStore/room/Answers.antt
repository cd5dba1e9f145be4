use Rattle.std.proofs.Common.{arith}
use Rattle.rolls.proofs.Counting.{pairs_counted}
use Rattle.rolls.proofs.RollStore.room.Goals as goal

pub returns-clause-whole : goal.returns-clause-whole
returns-clause-whole c =
    let s = c.args.self.now in
    let counted = pairs_counted s.entries.items s.buses s.posts s.ascending s.inside in
    omega (arith, counted, s.within)

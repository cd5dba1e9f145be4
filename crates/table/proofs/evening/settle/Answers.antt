use Rattle.std.proofs.Common.{◌∙◌}
use Rattle.table.proofs.EvenSides.{settled_whole}
use Rattle.table.proofs.evening.settle.Goals as goal

pub returns : goal.returns
returns g c = record {
  room = c.turn_one.ensures.room ∙ c.loop.invariant.0 ∙ c.settle_buses.ensures.room;
  settled = settled_whole _ _ _ _ _ c.settle_buses.ensures.settled c.loop.invariant.1 c.loop-test.ensures.turned;
}

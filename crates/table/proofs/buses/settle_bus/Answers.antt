use Rattle.std.proofs.Common.{arith}
use Rattle.table.proofs.SettlingBuses.{both_sides, settled_up, settled_down}
use Rattle.table.proofs.buses.settle_bus.Goals as goal

pub returns-then-own-aim : goal.returns-then-own-aim
returns-then-own-aim g c = record {
  room = c.turn_some.ensures.room;
  settled = settled_up _ _ _ _ _
      (omega (arith, both_sides (g.S.View.means c.args.store.now) c.args.bus, c.count_on-own.ensures.count, c.count_on-others.ensures.count, c.from.ensures, c.from-2.ensures, c.min-aim.ensures, c.if-own-aim.true))
      (omega (arith, c.if-own-aim.true)) c.turn_some.ensures.turned;
}

pub returns-else-own-aim : goal.returns-else-own-aim
returns-else-own-aim g c = record {
  room = c.turn_some-else-own-aim.ensures.room;
  settled = settled_down _ _ _ _ _
      (omega (arith, both_sides (g.S.View.means c.args.store.now) c.args.bus, c.count_on-own.ensures.count, c.count_on-others.ensures.count, c.from.ensures, c.from-2.ensures, c.min-aim.ensures, c.if-own-aim.false))
      c.turn_some-else-own-aim.ensures.turned;
}

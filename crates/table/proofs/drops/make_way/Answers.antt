use Rattle.std.proofs.Common.{ℕ, ◌+◌, sym, refl, subst, arith}
use Rattle.table.specs.Updates.{TurnedFrom}
use Rattle.table.proofs.Dropping.{way_post, bus_leads, way_bus, way_light}
use Rattle.table.proofs.drops.make_way.Goals as goal

pub turn_from-requires-then-from-bus_limit : goal.turn_from-requires-then-from-bus_limit
turn_from-requires-then-from-bus_limit g c = record {
  long = c.requires.long;
  even = c.requires.even;
  inside = omega (arith, c.requires.fits.bus);
  leads = λ _. bus_leads (g.S.View.means c.args.store.now) (g.R.Rule.limits c.args.rule.now) (g.met.R.Rule.lawful c.args.rule.now).rises (g.met.S.View.bounded c.args.store.now) c.requires.even c.args.pair.bus c.args.pair.post c.requires.fits
      (omega (arith, c.count_on-own.ensures.count, c.count_on-others.ensures.count, c.from.ensures, c.from-else-carries.ensures, c.bus_limit.ensures, c.if-from-bus_limit.true));
}

pub returns-then-carries : goal.returns-then-carries
returns-then-carries g c = record {
  room = c.turn_from.ensures.room;
  made = way_post (g.S.View.means c.args.store.now) (g.R.Rule.limits c.args.rule.now) (g.met.R.Rule.lawful c.args.rule.now).rises (g.met.S.View.bounded c.args.store.now) c.requires.even c.args.pair.bus c.args.pair.post c.requires.fits (sym c.if-carries.ensures) (g.S.View.means c.turn_from.new.store)
      (subst (λ (b : ℕ). TurnedFrom (g.S.View.means c.args.store.now) (g.S.View.means c.turn_from.new.store) (g.R.Rule.limits c.args.rule.now) (b + c.args.pair.post)) c.buses.ensures c.turn_from.ensures.turned);
}

pub returns-then-from-bus_limit : goal.returns-then-from-bus_limit
returns-then-from-bus_limit g c = record {
  room = c.turn_from-then-from-bus_limit.ensures.room;
  made = way_bus (g.S.View.means c.args.store.now) (g.R.Rule.limits c.args.rule.now) (g.met.R.Rule.lawful c.args.rule.now).rises (g.met.S.View.bounded c.args.store.now) c.requires.even c.args.pair.bus c.args.pair.post c.requires.fits (sym c.if-carries.ensures)
      (omega (arith, c.count_on-own.ensures.count, c.count_on-others.ensures.count, c.from.ensures, c.from-else-carries.ensures, c.bus_limit.ensures, c.if-from-bus_limit.true))
      (g.S.View.means c.turn_from-then-from-bus_limit.new.store) c.turn_from-then-from-bus_limit.ensures.turned;
}

pub returns-else-from-bus_limit : goal.returns-else-from-bus_limit
returns-else-from-bus_limit g c = record {
  room = refl;
  made = way_light (g.S.View.means c.args.store.now) (g.R.Rule.limits c.args.rule.now) (g.met.R.Rule.lawful c.args.rule.now).rises (g.met.S.View.bounded c.args.store.now) c.requires.even c.args.pair.bus c.args.pair.post c.requires.fits (sym c.if-carries.ensures)
      (omega (arith, c.count_on-own.ensures.count, c.count_on-others.ensures.count, c.from.ensures, c.from-else-carries.ensures, c.bus_limit.ensures, c.if-from-bus_limit.false));
}

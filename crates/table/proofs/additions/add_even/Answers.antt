use Rattle.std.proofs.Common.{sym, subst, arith}
use Rattle.stores.specs.Meaning.{Meaning}
use Rattle.table.specs.Updates.{AddedEven}
use Rattle.table.proofs.Adding.{added_to_bus}
use Rattle.table.proofs.additions.add_even.Goals as goal

pub returns-then-from-bus_limit : goal.returns-then-from-bus_limit
returns-then-from-bus_limit g c =
    let f = c.requires.fits in
    let put_in = c.add.ensures.adds f.bus f.post f.absent f.place in
    record {
      room = put_in.1;
      added = subst (λ (n : Meaning). AddedEven (g.S.View.means c.args.store.now) n (g.R.Rule.limits c.args.rule.now) c.args.pair.bus c.args.pair.post) (sym put_in.0.meaning)
          (added_to_bus (g.S.View.means c.args.store.now) (g.R.Rule.limits c.args.rule.now) (g.met.R.Rule.lawful c.args.rule.now).rises (g.met.S.View.bounded c.args.store.now) c.requires.even c.args.pair.bus c.args.pair.post f.bus f.post f.absent
          (omega (arith, c.count_on-carried.ensures.count, c.from.ensures, c.bus_limit.ensures, c.if-from-bus_limit)));
    }

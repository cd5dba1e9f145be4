use Rattle.std.proofs.Common.{[], refl, arith}
use Rattle.table.proofs.EvenSides.{against_pairs, right_within, even_right}
use Rattle.table.proofs.Dropping.{turned_found, turned_free, turned_one}
use Rattle.table.proofs.drops.turn_from.Goals as goal

pub descend-requires-clause-buses : goal.descend-requires-clause-buses
descend-requires-clause-buses g c = rw c.over-search.ensures.over.0 (right_within (g.S.View.means c.args.store.now) (g.R.Rule.limits c.args.rule.now) (even_right (g.S.View.means c.args.store.now) (g.R.Rule.limits c.args.rule.now) c.requires.even))

pub turn_back-requires : goal.turn_back-requires
turn_back-requires g c = rw c.into_found-queue.ensures (record {
  over = against_pairs (g.S.View.means c.args.store.now) c.descend.new.search.queue c.descend.new.search.marks.now (rw c.over-search.ensures.over.0 at c.in-Some.ensures.descended).state;
  found = (c.in-Some.ensures.descended.finds c.in-Some.field-0-0 c.in-Some.place refl).2;
})

pub returns-in-Some : goal.returns-in-Some
returns-in-Some g c = record {
  room = c.turn_back.ensures.room;
  turned = turned_found (g.S.View.means c.args.store.now) (g.R.Rule.limits c.args.rule.now) (g.met.R.Rule.lawful c.args.rule.now).rises (g.met.S.View.bounded c.args.store.now) c.requires.even c.args.node c.requires.inside
      c.descend.new.search.queue c.descend.new.search.marks.now c.in-Some.field-0-0 c.in-Some.place (rw c.over-search.ensures.over.0 at c.in-Some.ensures.descended) (g.S.View.means c.turn_back.new.store) (rw c.into_found-queue.ensures at c.turn_back.ensures.turned);
}

pub returns-then-node-buses : goal.returns-then-node-buses
returns-then-node-buses g c =
    let t = turned_one (g.S.View.means c.args.store.now) (g.R.Rule.limits c.args.rule.now) (g.met.R.Rule.lawful c.args.rule.now).rises (g.met.S.View.bounded c.args.store.now) c.requires.even
    c.args.node (omega (arith, c.buses.ensures, c.if-node-buses.true)) c.descend.new.search.queue c.descend.new.search.marks.now (rw c.over-search.ensures.over.0 at c.in-None.ensures.descended) c.first_carrying-post.result c.first_carrying-post.ensures
    (g.S.View.means c.turn.new.self) (g.S.Store.room c.args.store.now) (g.S.Store.room c.turn.new.self) c.turn.result c.turn.ensures in
    record { room = t.0; turned = t.1 }

pub returns-else-node-buses : goal.returns-else-node-buses
returns-else-node-buses g c = record {
  room = refl;
  turned = turned_free (g.S.View.means c.args.store.now) (g.R.Rule.limits c.args.rule.now) (g.met.R.Rule.lawful c.args.rule.now).rises (g.met.S.View.bounded c.args.store.now) c.requires.even c.args.node c.requires.inside
      c.descend.new.search.queue c.descend.new.search.marks.now (rw c.over-search.ensures.over.0 at c.in-None.ensures.descended) (g.S.View.means c.args.store.now) [] tt refl (omega (arith, c.buses.ensures, c.if-node-buses.false)) c.requires.inside;
}

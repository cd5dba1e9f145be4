use Rattle.table.proofs.EvenSides.{chain_turned}
use Rattle.table.proofs.evening.turn_one.Goals as goal

pub returns-in-Some-clause-turned : goal.returns-in-Some-clause-turned
returns-in-Some-clause-turned g c =
    chain_turned _ _ _ (g.met.R.Rule.lawful c.args.rule.now).rises (g.met.S.View.bounded c.args.store.now) c.requires.right _ _ (rw c.over-search.ensures.over.0 at c.in-Some.ensures)
    (rw c.into_found-queue.ensures at c.turn_back.ensures.turned)

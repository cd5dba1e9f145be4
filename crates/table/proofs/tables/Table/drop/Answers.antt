use Rattle.table.proofs.Accepting.{dropped}
use Rattle.table.proofs.tables.Table.drop.Goals as goal

pub returns-clause-does : goal.returns-clause-does
returns-clause-does g c =
    rw (← c.over-guard.ensures.len) (dropped _ (g.met.R.Rule.lawful c.args.self.now.rule).rises _ _ _ _ _ _ _ c.settle.ensures.settled c.settle.ensures.room c.args.pair.bus c.args.pair.post
    c.in_ok-enough.ensures.0 c.in_ok-droppable.ensures c.drop_even.ensures.dropped c.drop_even.ensures.room)

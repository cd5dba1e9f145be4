use Rattle.std.proofs.Common.{refl, arith}
use Rattle.table.proofs.Searching.{searched_of, within, seeking_none, sought_found}
use Rattle.table.proofs.searches.Search.run.Goals as goal

pub loop-self-init : goal.loop-self-init
loop-self-init g c = (refl, refl, seeking_none _ _ _ _ _ (searched_of c.args.self.now.searched))

pub returns-in-Some-clause-sought : goal.returns-in-Some-clause-sought
returns-in-Some-clause-sought g c =
    let i = c.loop-self.invariant in
    sought_found _ _ _ _ _ _ _ _ _ i.2 (rw i.0 at c.in-Some.ensures.followed)

pub loop-self-smaller : goal.loop-self-smaller
loop-self-smaller g c = omega (arith, (c.in_default.ensures.followed.misses refl).0, within _ _ _ _ c.loop-self.invariant.2.state, c.loop-self-test.true, c.len.ensures.value)

use Rattle.std.proofs.Common.{rules, arith}
use Rattle.rolls.proofs.Changes.{gap_absent, here_carried, removed_ascending, removed_inside, removed_means}
use Rattle.rolls.proofs.RollStore.drop.Goals as goal

pub returns-in_default : goal.returns-in_default
returns-in_default c =
    let absent = gap_absent _ c.args.pair _ c.in_default.ensures in
    grind (arith, absent)

pub invariant_of-self-clause-ascending : goal.invariant_of-self-clause-ascending
invariant_of-self-clause-ascending c = removed_ascending _ c.args.self.now.ascending c.args.pair _ c.in-Ok.ensures _ (search rules)

pub invariant_of-self-clause-inside : goal.invariant_of-self-clause-inside
invariant_of-self-clause-inside c =
    let s = c.args.self.now in
    removed_inside _ s.ascending c.args.pair _ c.in-Ok.ensures _ s.buses s.posts (search rules) s.inside

pub returns : goal.returns
returns c =
    let s = c.args.self.now in
    let side = here_carried _ s.ascending c.args.pair _ c.in-Ok.ensures in
    let means = removed_means _ s.ascending c.args.pair _ c.in-Ok.ensures s.buses s.posts in
    grind (arith, side, means)

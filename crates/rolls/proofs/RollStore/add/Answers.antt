use Rattle.std.proofs.Common.{rules, arith}
use Rattle.rolls.proofs.Changes.{gap_absent, here_carried, inserted_ascending, inserted_inside, inserted_means}
use Rattle.rolls.proofs.RollStore.add.Goals as goal

pub returns-in_default : goal.returns-in_default
returns-in_default c =
    let side = here_carried _ c.args.self.now.ascending c.args.pair _ c.in_default.ensures (record { pair = c.args.pair; side = c.args.side }) in
    grind (arith, side)

pub returns-then-len-from : goal.returns-then-len-from
returns-then-len-from c =
    let absent = gap_absent _ c.args.pair _ c.in-Err.ensures in
    grind (arith, absent)

pub invariant_of-self-clause-ascending : goal.invariant_of-self-clause-ascending
invariant_of-self-clause-ascending c = inserted_ascending _ c.args.pair _ c.in-Err.ensures c.args.side _ (search rules) c.args.self.now.ascending

pub invariant_of-self-clause-inside : goal.invariant_of-self-clause-inside
invariant_of-self-clause-inside c =
    let s = c.args.self.now in
    let admitted = c.in_ok-admit.ensures in
    inserted_inside _ c.args.pair _ c.in-Err.ensures c.args.side _ s.buses s.posts (search rules) (grind (arith, admitted)) (grind (arith, admitted)) s.inside

pub returns : goal.returns
returns c =
    let s = c.args.self.now in
    let absent = gap_absent _ c.args.pair _ c.in-Err.ensures in
    let means = inserted_means _ c.args.pair _ c.in-Err.ensures c.args.side s.buses s.posts in
    grind (arith, absent, means)

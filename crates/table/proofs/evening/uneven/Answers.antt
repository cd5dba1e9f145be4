use Rattle.std.proofs.Common.{◌≡◌, rules}
use Rattle.std.specs.Option.{option_map}
use Rattle.table.proofs.EvenSides.{right_within, under_upward, uneven_by}
use Rattle.table.proofs.evening.uneven.Goals as goal

pub descend-requires-clause-buses : goal.descend-requires-clause-buses
descend-requires-clause-buses g c = right_within (g.S.View.means c.args.search.now.net.now.0.0.now) (g.R.Rule.limits c.args.rule.now) c.requires.right

pub descend-requires-clause-up : goal.descend-requires-clause-up
descend-requires-clause-up g c = under_upward _ (g.R.Rule.limits c.args.rule.now) _ _ (g.met.R.Rule.lawful c.args.rule.now).rises

pub returns : goal.returns
returns g c =
    let m = g.S.View.means c.args.search.now.net.now.0.0.now in
    let L = g.R.Rule.limits c.args.rule.now in
    let d = rw c.posts.ensures at (rw c.buses.ensures at c.descend.ensures.descended) in
    let answer : c.map.result ≡ option_map (λ v. v.1) c.descend.result = search rules in
    rw answer (uneven_by m L c.loads-loads.result (g.met.S.View.bounded c.args.search.now.net.now.0.0.now) c.loads-loads.ensures c.requires.right c.descend.new.search.queue c.descend.new.search.marks.now c.descend.result d)

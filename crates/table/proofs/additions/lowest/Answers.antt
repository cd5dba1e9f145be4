use Rattle.std.proofs.Common.{◌≡◌, ◌<◌, true, rules}
use Rattle.table.specs.Searches.{len, node}
use Rattle.table.proofs.Choosing.{chosen_here}
use Rattle.table.proofs.additions.lowest.Goals as goal

pub returns-in-Some : goal.returns-in-Some
returns-in-Some g c =
    let at : (c.in-Some.place < len c.args.queue.now) × (g.G.LevelGoal.sought c.args.goal.now c.loop-level.level-counter (node c.args.queue.now c.in-Some.place) ≡ true) = search rules in
    chosen_here (g.G.LevelGoal.sought c.args.goal.now) c.args.queue.now c.loop-level.level-counter c.loop-level.invariant c.in-Some.place c.requires.up c.loop-level-test.true at.0 at.1

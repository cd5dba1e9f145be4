use Rattle.std.proofs.Common.{arith}
use Rattle.rules.proofs.Rising.{never_falls}
use Rattle.rules.proofs.lowest_level.Goals as goal

pub returns-then-post_limit-need : goal.returns-then-post_limit-need
returns-then-post_limit-need g c =
    grind (arith, never_falls (g.R.Rule.limits c.args.rule.now) (g.met.R.Rule.lawful c.args.rule.now) c.args.post)

pub loop-low-preserved-then-post_limit-need-2 : goal.loop-low-preserved-then-post_limit-need-2
loop-low-preserved-then-post_limit-need-2 g c =
    grind (arith, never_falls (g.R.Rule.limits c.args.rule.now) (g.met.R.Rule.lawful c.args.rule.now) c.args.post)

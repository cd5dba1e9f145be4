use Rattle.std.proofs.Common.{sym, ◌∙◌, arith}
use Rattle.blocks.proofs.Sums.{sum_empty}
use Rattle.table.proofs.Writing.{counted_more}
use Rattle.table.proofs.files.count_pairs.Goals as goal

pub loop-bus-init : goal.loop-bus-init
loop-bus-init g c = (sym (sum_empty _), omega arith)

pub loop-bus-preserved : goal.loop-bus-preserved
loop-bus-preserved g c = (
  counted_more (g.S.View.means c.args.view.now) c.loop-bus.bus _ _ _ c.loop-bus.invariant.0 (c.from.ensures ∙ c.count_on.ensures.count) (c.from-in-loop-bus.ensures ∙ c.count_on-in-loop-bus.ensures.count),
  omega (arith, c.loop-bus.invariant.1, c.from.ensures, c.from-in-loop-bus.ensures, c.count_on.ensures.few, c.count_on-in-loop-bus.ensures.few),
)

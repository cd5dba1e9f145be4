use Rattle.std.proofs.Common.{◌≡◌, ◌*◌, ◌≤◌}
use Rattle.blocks.specs.Sums.{sum}
use Rattle.table.specs.Files.{row_count}
use Rattle.table.proofs.files.count_pairs.Given as goal

abbrev pub invariant-loop-bus : goal.invariant-loop-bus
invariant-loop-bus g l = (l.count ≡ sum l.bus (λ b. row_count (g.S.View.means l.view) b (g.S.View.means l.view).posts)) × (l.count ≤ 512 * l.bus)

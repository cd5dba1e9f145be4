use Rattle.std.proofs.Common.{◌≡◌}
use Rattle.blocks.specs.Sums.{sum}
use Rattle.grids.specs.Cells.{rows_mean}
use Rattle.grids.proofs.RoomSums.{row_pairs}
use Rattle.grids.proofs.GridStore.room.Given as goal

abbrev pub invariant-loop-bus : goal.invariant-loop-bus
invariant-loop-bus g l = l.count ≡ sum l.bus (λ b. row_pairs (rows_mean (g.M.AsSlice.items l.self.memory) l.self.buses l.self.posts) b)

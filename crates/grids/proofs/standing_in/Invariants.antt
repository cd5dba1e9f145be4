use Rattle.std.proofs.Common.{◌≡◌, ◌*◌}
use Rattle.blocks.specs.Sums.{sum, bit}
use Rattle.stores.specs.Meaning.{stands}
use Rattle.grids.specs.Cells.{cell_means}
use Rattle.grids.proofs.standing_in.Given as goal

abbrev pub invariant-loop-post : goal.invariant-loop-post
invariant-loop-post l = l.count ≡ sum l.post (λ p. bit (stands (cell_means l.row (2 * p))))

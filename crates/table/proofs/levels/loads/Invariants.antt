use Rattle.std.proofs.Common.{◌≡◌, ℕ, ◌<◌, length, get_or}
use Rattle.blocks.specs.Sides.{post_load}
use Rattle.table.specs.Yards.{yard_of, sides_of}
use Rattle.table.proofs.levels.loads.Given as goal

abbrev pub invariant-loop-post : goal.invariant-loop-post
invariant-loop-post g l =
    (length l.loads ≡ 256) ×
    ((p : ℕ) → p < l.post → get_or l.loads p 0 ≡ post_load (yard_of (g.S.View.means l.view)) (sides_of (g.S.View.means l.view)) p)

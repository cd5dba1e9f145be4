use Rattle.std.proofs.Common.{◌≡◌, ◌≤◌, ℕ, ◌*◌, sym, refl, ap, ◌∙◌, Bool, true, false, arith}
use Rattle.std.specs.Int.{from_bool}
use Rattle.std.specs.Option.{is_some}
use Rattle.blocks.specs.Sums.{sum, bit}
use Rattle.blocks.proofs.Sums.{sum_bound}
use Rattle.stores.specs.Meaning.{stands}
use Rattle.grids.specs.Cells.{cell_means}
use Rattle.grids.proofs.RoomSums.{sum_none, sum_more, bit_small}
use Rattle.grids.proofs.standing_in.Goals as goal

as_bit : (t : Bool) → from_bool t ≡ bit t
as_bit true = refl
as_bit false = refl

pub loop-post-init : goal.loop-post-init
loop-post-init c = sym (sum_none (λ p. bit (stands (cell_means c.args.row.now (2 * p)))))

-- what this turn counts
counted : (c : goal.After-from-count) → c.from-count.result ≡ bit (stands (cell_means c.args.row.now (2 * c.loop-post.post)))
counted c = c.from-count.ensures ∙ (as_bit c.is_some.result ∙ ap bit (c.is_some.ensures ∙ ap is_some c.read_cell.ensures))

pub overflow_add-count : goal.overflow_add-count
overflow_add-count c =
    let f : ℕ → ℕ = λ p. bit (stands (cell_means c.args.row.now (2 * p))) in
    let few : sum c.loop-post.post f ≤ c.loop-post.post = sum_bound c.loop-post.post f (λ i h. bit_small _) in
    omega (arith, c.loop-post.invariant, counted c, bit_small (stands (cell_means c.args.row.now (2 * c.loop-post.post))))

pub loop-post-preserved : goal.loop-post-preserved
loop-post-preserved c = omega (arith, c.loop-post.invariant, counted c, sum_more c.loop-post.post (λ p. bit (stands (cell_means c.args.row.now (2 * p)))))

use Rattle.std.proofs.Common.{◌≡◌, ◌*◌, sym, refl, ap, ◌∙◌, arith}
use Rattle.std.proofs.lemmas.Nat.{mul-le}
use Rattle.blocks.specs.Sums.{sum, bit}
use Rattle.stores.specs.Meaning.{stands, standing_count}
use Rattle.grids.specs.Cells.{cell_means, rows_mean}
use Rattle.grids.proofs.CellPlaces.{row_count}
use Rattle.grids.proofs.RoomSums.{sum_none, sum_more, row_pairs, row_few, rows_few, pairs_few}
use Rattle.grids.proofs.GridStore.room.Given.{Over}
use Rattle.grids.proofs.GridStore.room.Goals as goal

pub loop-bus-init : goal.loop-bus-init
loop-bus-init g c = sym (sum_none (λ b. row_pairs (rows_mean (g.M.AsSlice.items c.args.self.now.memory) c.args.self.now.buses c.args.self.now.posts) b))

-- the count of this turn's row
counted : (g : Over) (c : goal.After-standing_in-count g)
    → c.standing_in-count.result ≡ row_pairs (rows_mean (g.M.AsSlice.items c.args.self.now.memory) c.args.self.now.buses c.args.self.now.posts) c.loop-bus.bus
counted g c =
    let s = c.args.self.now in
    c.standing_in-count.ensures
    ∙ (ap (λ ys. sum s.posts (λ p. bit (stands (cell_means ys (2 * p))))) c.row.ensures.part
    ∙ row_count (g.M.AsSlice.items s.memory) s.buses s.posts c.loop-bus.bus c.loop-bus-test.true)

pub overflow_add-count : goal.overflow_add-count
overflow_add-count g c =
    let s = c.args.self.now in
    let m = rows_mean (g.M.AsSlice.items s.memory) s.buses s.posts in
    omega (
      arith,
      c.loop-bus.invariant,
      counted g c,
      row_few m c.loop-bus.bus,
      rows_few m c.loop-bus.bus,
      s.few_posts,
      mul-le c.loop-bus.bus s.posts 65535 256 (omega (arith, c.loop-bus-test.true, s.few_buses)) s.few_posts,
    )

pub loop-bus-preserved : goal.loop-bus-preserved
loop-bus-preserved g c =
    let m = rows_mean (g.M.AsSlice.items c.args.self.now.memory) c.args.self.now.buses c.args.self.now.posts in
    omega (arith, c.loop-bus.invariant, counted g c, sum_more c.loop-bus.bus (λ b. row_pairs m b))

-- all rows have been counted at the end
count_is : (g : Over) (c : goal.After-from-2 g)
    → c.loop-bus.count ≡ standing_count (rows_mean (g.M.AsSlice.items c.args.self.now.memory) c.args.self.now.buses c.args.self.now.posts)
count_is g c =
    let m = rows_mean (g.M.AsSlice.items c.args.self.now.memory) c.args.self.now.buses c.args.self.now.posts in
    let last : c.loop-bus.bus ≡ c.args.self.now.buses = omega (arith, c.loop-bus-test.false, c.loop-bus.auto.bus-end) in
    c.loop-bus.invariant ∙ ap (λ n. sum n (λ b. row_pairs m b)) last

pub overflow_sub-result : goal.overflow_sub-result
overflow_sub-result g c =
    let s = c.args.self.now in
    rw (c.from.ensures, c.from-2.ensures, count_is g c) (pairs_few (rows_mean (g.M.AsSlice.items s.memory) s.buses s.posts))

use Rattle.std.proofs.Common.{ℕ, List, refl}
use Rattle.grids.proofs.GridWrites.{written_rows, written_room}
use Rattle.grids.proofs.Grid.write.Goals as goal

pub returns : goal.returns
returns g c =
    let xs : List ℕ = g.M.AsSlice.items c.args.self.now.memory in
    let ys : List ℕ = g.M.AsSlice.items c.write_cell.new.memory in
    let B : ℕ = c.args.self.now.buses in
    let P : ℕ = c.args.self.now.posts in
    let b : ℕ = c.args.pair.bus in
    let p : ℕ = c.args.pair.post in
    record {
      sizes = (refl, refl);
      cell = c.write_cell.ensures;
      means = written_rows xs ys B P b p c.args.standing c.requires.0 c.requires.1 c.write_cell.ensures;
      room = written_room xs ys B P b p c.args.standing c.requires.0 c.requires.1 c.write_cell.ensures;
    }

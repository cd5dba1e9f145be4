use Rattle.std.proofs.Common.{length, sym, subst, arith}
use Rattle.table.specs.Files.{Wrote}
use Rattle.table.proofs.Writing.{wrote_none, wrote_then, row_fits, rows_more, no_rows}
use Rattle.table.proofs.files.write_pairs.Goals as goal

pub loop-bus-init : goal.loop-bus-init
loop-bus-init g c = subst (λ t. Wrote c.args.out.now 0 t c.args.out.now 0) (sym (no_rows (g.S.View.means c.args.view.now))) (wrote_none c.args.out.now 0)

pub put_row-end-requires : goal.put_row-end-requires
put_row-end-requires g c = record {
  bus = omega (arith, c.buses-bus-end.ensures);
  room =
      row_fits (g.S.View.means c.args.view.now) c.loop-bus.bus c.loop-bus.end (length c.loop-bus.out) (omega (arith, c.buses-bus-end.ensures)) c.loop-bus.invariant.grown
      (omega (arith, c.requires, c.loop-bus.auto.out));
}

pub loop-bus-preserved : goal.loop-bus-preserved
loop-bus-preserved g c =
    subst (λ t. Wrote c.args.out.now 0 t c.put_row-end.new.out c.put_row-end.result) (sym (rows_more (g.S.View.means c.args.view.now) c.loop-bus.bus))
    (wrote_then _ _ c.loop-bus.invariant c.put_row-end.ensures)

use Rattle.std.proofs.Common.{length, sym, subst, arith}
use Rattle.table.specs.Files.{Wrote}
use Rattle.table.proofs.Writing.{wrote_none, wrote_then, pair_fits, row_more, no_row}
use Rattle.table.proofs.files.put_row.Goals as goal

pub loop-post-init : goal.loop-post-init
loop-post-init g c =
    subst (λ t. Wrote c.args.out.now c.args.at t c.args.out.now c.args.at) (sym (no_row (g.S.View.means c.args.view.now) c.args.bus)) (wrote_none c.args.out.now c.args.at)

pub put_pair-end-requires : goal.put_pair-end-requires
put_pair-end-requires g c = record {
  pair = (c.requires.bus, omega (arith, c.posts-post-end.ensures));
  room =
      pair_fits (g.S.View.means c.args.view.now) c.args.bus c.loop-post.post c.args.at c.loop-post.end (length c.loop-post.out)
      (omega (arith, c.posts-post-end.ensures)) c.loop-post.invariant.grown (omega (arith, c.requires.room, c.loop-post.auto.out));
}

pub loop-post-preserved : goal.loop-post-preserved
loop-post-preserved g c =
    subst (λ t. Wrote c.args.out.now c.args.at t c.put_pair-end.new.out c.put_pair-end.result)
    (sym (row_more (g.S.View.means c.args.view.now) c.args.bus c.loop-post.post))
    (wrote_then _ _ c.loop-post.invariant c.put_pair-end.ensures)

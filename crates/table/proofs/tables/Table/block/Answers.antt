use Rattle.std.proofs.Common.{refl}
use Rattle.table.proofs.Refusing.{level_passes}
use Rattle.table.proofs.Accepting.{reported, block_both}
use Rattle.table.proofs.tables.Table.block.Goals as goal

pub returns-clause-does : goal.returns-clause-does
returns-clause-does g c =
    rw (← c.over-guard.ensures.len) (reported _ _ _ _ _ _ _ _ (c.count_marked.result, c.count_marked-2.result) c.in_ok-enough.ensures.0 (level_passes c.args.level c.in_ok-take_level.ensures)
    c.settle.ensures.settled c.settle.ensures.room refl (λ Z e. e) (λ e. e)
    (block_both _ _ _ _ (rw (c.over.ensures.0, c.over.ensures.1) at c.mark_block.ensures) _ _ _ _ c.buses-buses.ensures c.posts-posts.ensures c.count_marked.ensures c.count_marked-2.ensures))

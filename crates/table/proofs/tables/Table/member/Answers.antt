use Rattle.std.proofs.Common.{sym, refl, ◌∙◌}
use Rattle.table.proofs.Refusing.{level_passes}
use Rattle.table.proofs.Accepting.{reported, block_member, same_size}
use Rattle.table.proofs.tables.Table.member.Goals as goal

pub returns-clause-does : goal.returns-clause-does
returns-clause-does g c =
    rw (← c.over-guard.ensures.len) (reported _ _ _ _ _ _ _ _ c.first_marked.result c.in_ok-nodes.ensures.0 (level_passes c.args.level c.in_ok-take_level.ensures)
    c.settle.ensures.settled c.settle.ensures.room refl (λ Z e. e) (λ e. e)
    (block_member _ _ _ _ (rw (c.over.ensures.0, c.over.ensures.1) at c.mark_block.ensures) _ _ _ (c.in_ok-nodes.ensures.1 ∙ sym (same_size _ _ c.settle.ensures.settled.pairs)) c.first_marked.ensures))

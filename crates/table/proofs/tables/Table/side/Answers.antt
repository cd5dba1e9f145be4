use Rattle.std.proofs.Common.{[], refl}
use Rattle.table.proofs.Refusing.{told_standing}
use Rattle.table.proofs.Accepting.{reported, side_told}
use Rattle.table.proofs.tables.Table.side.Goals as goal

pub returns-clause-does : goal.returns-clause-does
returns-clause-does g c =
    rw (← c.over-guard.ensures.len) (reported _ _ _ _ _ _ _ _ c.in_ok-stands-2.field-0 c.in_ok-enough.ensures.0
    (told_standing (g.S.View.means c.args.self.now.store) c.args.pair.bus c.args.pair.post [] _ c.in_ok-stands.ensures).0
    c.settle.ensures.settled c.settle.ensures.room refl (λ Z e. e) (λ e. e) (side_told _ _ _ _ c.in_ok-stands-2.ensures))

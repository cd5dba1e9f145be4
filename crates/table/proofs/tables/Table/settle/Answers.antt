use Rattle.std.proofs.Common.{refl}
use Rattle.table.proofs.Accepting.{reported}
use Rattle.table.proofs.tables.Table.settle.Goals as goal

pub returns-clause-does : goal.returns-clause-does
returns-clause-does g c =
    rw (← c.over-guard.ensures.len) (reported _ _ _ _ _ _ _ _ tt c.in_ok-enough.ensures.0 refl c.settle.ensures.settled c.settle.ensures.room refl (λ Z e. e) (λ e. e) refl)

use Rattle.std.proofs.Common.{length, arith}
use Rattle.table.proofs.Filing.{file_made, still_long}
use Rattle.table.proofs.tables.Table.pair_file.Goals as goal

pub write_pairs-requires : goal.write_pairs-requires
write_pairs-requires g c =
    still_long _ _ _ (length c.args.out.now) c.settle.ensures.settled (omega (arith, c.if-out-count_pairs.false, c.count_pairs.ensures.count))

pub returns-clause-does : goal.returns-clause-does
returns-clause-does g c =
    rw (← c.over-guard.ensures.len) (file_made _ _ _ _ _ _ _ _ _ c.in_ok-enough.ensures.0 (omega (arith, c.if-out-count_pairs.false, c.count_pairs.ensures.count)) c.settle.ensures.settled
    c.settle.ensures.room c.write_pairs.ensures.answer c.write_pairs.ensures.bytes)

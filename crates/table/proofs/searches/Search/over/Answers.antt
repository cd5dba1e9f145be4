use Rattle.std.proofs.Common.{length}
use Rattle.table.proofs.Searching.{searched_none}
use Rattle.table.proofs.searches.Search.over.Goals as goal

pub invariant_of-result : goal.invariant_of-result
invariant_of-result g c = record {
  searched = ∣ searched_none _ _ _ _ (length c.args.marks.now) c.requires.few c.requires.long c.requires.zero c.new.ensures.0 c.new.ensures.1 ∣₁;
}

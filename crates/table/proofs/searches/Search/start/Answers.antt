use Rattle.table.proofs.Searching.{searched_of, is_marked, is_unmarked, started, started_not}
use Rattle.table.proofs.searches.Search.start.Goals as goal

pub returns-then-self-first-eq0-clause-started : goal.returns-then-self-first-eq0-clause-started
returns-then-self-first-eq0-clause-started g c =
    started _ _ _ _ _ (searched_of c.args.self.now.searched) c.requires (is_unmarked c.args.self.now.marks.now c.args.first c.if-self-first-eq0.true) c.push.new.self.queue c.push.new.self.marks.now c.push.ensures.marks
    (rw c.len-place.ensures.value at c.push.ensures.queue)

pub returns-else-self-first-eq0-clause-started : goal.returns-else-self-first-eq0-clause-started
returns-else-self-first-eq0-clause-started g c =
    started_not _ _ _ _ _ (searched_of c.args.self.now.searched) (is_marked c.args.self.now.marks.now c.args.first c.if-self-first-eq0.false)

use Rattle.std.proofs.Common.{sym, ◌∙◌}
use Rattle.table.proofs.Searching.{starting_more, starting_found}
use Rattle.table.proofs.searches.Search.start_all.Goals as goal

pub returns-then-wanted-clause-started : goal.returns-then-wanted-clause-started
returns-then-wanted-clause-started g c =
    let i = c.loop-first.invariant in
    starting_found _ _ _ _ _ _ _ _ _ c.loop-first-test.true (rw i.0 at c.start.ensures.started) i.2 (sym c.if-wanted.ensures)

pub loop-first-preserved : goal.loop-first-preserved
loop-first-preserved g c =
    let i = c.loop-first.invariant in (
      c.start.ensures.over.0 ∙ i.0,
      c.start.ensures.over.1 ∙ i.1,
      starting_more _ _ _ _ _ _ _ _ _ c.loop-first-test.true (rw i.0 at c.start.ensures.started) i.2 (sym c.if-wanted.ensures),
    )

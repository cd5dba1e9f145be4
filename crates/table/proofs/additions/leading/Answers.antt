use Rattle.table.proofs.Adding.{all_leading}
use Rattle.table.proofs.additions.leading.Goals as goal

pub returns : goal.returns
returns g c =
    let started = rw c.over-search.ensures.over.0 at c.start.ensures.started in
    let sought = rw c.over-search.ensures.over.0 at (rw c.start.ensures.over.0 at c.run.ensures.sought) in
    rw c.into_found.ensures
    (all_leading (g.S.View.means c.args.view.now) (g.met.S.View.bounded c.args.view.now) c.args.node c.over-search.result.queue c.start.new.self.queue c.run.new.self.queue
    c.over-search.result.marks.now c.start.new.self.marks.now c.run.new.self.marks.now c.run.result c.requires.inside c.over-search.ensures.none.0 started sought)

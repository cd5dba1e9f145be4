use Rattle.std.proofs.Common.{◌+◌, ◌-◌, ◌<◌, sym, refl, ◌∙◌, subst, arith}
use Rattle.std.proofs.lemmas.Bool.{both_ways}
use Rattle.table.specs.declared.queues.Queue.{Queue}
use Rattle.table.specs.Searches.{Searched}
use Rattle.table.proofs.Searching.{searched_of, pushed_len, is_marked, is_unmarked, following_none, following_skip, following_more, followed_found, followed_none}
use Rattle.table.proofs.searches.Search.follow.Goals.{then-self-to-eq0+then-leads+else-wanted, else-self-to-eq0, else-self-to-eq0-via-then-self-to-eq0+else-leads, else-self-to-eq0-via-else-self-to-eq0}
use Rattle.table.proofs.searches.Search.follow.Goals as goal

pub loop-to-init : goal.loop-to-init
loop-to-init g c = (refl, refl, following_none _ _ _ _ _ (searched_of c.args.self.now.searched))

pub returns-then-wanted-clause-followed : goal.returns-then-wanted-clause-followed
returns-then-wanted-clause-followed g c =
    let i = c.loop-to.invariant in
    let lt : c.loop-to.to < g.N.Network.nodes c.args.self.now.net.now = omega (arith, c.nodes-to-end.ensures.count) in
    let led = sym (rw c.deref.ensures.0 at (rw i.0 at c.if-leads.ensures)) in
    rw c.push.ensures.marks
    (followed_found _ _ _ _ _ _ _ i.2 c.requires lt (is_unmarked c.loop-to.self.marks.now c.loop-to.to c.if-self-to-eq0.true) led c.push.new.self.queue c.push.ensures.queue (sym c.if-wanted.ensures) (c.len.result - 1)
    (omega (arith, pushed_len c.push.ensures.queue, c.len.ensures.value)))

pub loop-to-preserved : goal.loop-to-preserved
loop-to-preserved g c =
    let i = c.loop-to.invariant in
    let lt : c.loop-to.to < g.N.Network.nodes c.args.self.now.net.now = omega (arith, c.nodes-to-end.ensures.count) in
    elim c.if-self-to-eq0.branch [
      | then-self-to-eq0+then-leads+else-wanted w ↦
          let led = sym (rw c.deref.ensures.0 at (rw i.0 at w.if-leads.ensures)) in
          simp (w.self-is, w.push.ensures.marks) (
            w.push.ensures.over.0 ∙ i.0,
            w.push.ensures.over.1 ∙ i.1,
            following_more _ _ _ _ _ _ _ i.2 c.requires lt (is_unmarked c.loop-to.self.marks.now c.loop-to.to w.if-self-to-eq0.true) led w.push.new.self.queue w.push.ensures.queue (sym w.if-wanted.ensures),
          )
      | else-self-to-eq0 w ↦
          simp (w.self-is) (
            i.0,
            i.1,
            elim w.else-self-to-eq0.branch [
              | else-self-to-eq0-via-then-self-to-eq0+else-leads v ↦ following_skip _ _ _ _ _ _ _ i.2 (λ k. absurd (both_ways _ (sym (rw c.deref.ensures.0 at (rw i.0 at v.if-leads.ensures))) k))
              | else-self-to-eq0-via-else-self-to-eq0 v ↦ following_skip _ _ _ _ _ _ _ i.2 (λ _. is_marked c.loop-to.self.marks.now c.loop-to.to v.if-self-to-eq0.false)
            ],
          )
    ]

pub invariant_of-self : goal.invariant_of-self
invariant_of-self g c =
    let i = c.loop-to.invariant in
    let q : Queue = record { found = c.loop-to.self.queue.found; next = c.args.self.now.queue.next + 1 } in
    let f = followed_none _ _ _ _ _ _ _ i.2 (omega (arith, c.nodes-to-end.ensures.count, c.loop-to-test.false)) c.requires q refl refl in
    record { searched = subst (λ n. ∥ Searched (g.N.Network.leads n) (g.N.Network.nodes n) q c.loop-to.self.marks.now ∥₁) (sym i.0) ∣ f.state ∣₁ }

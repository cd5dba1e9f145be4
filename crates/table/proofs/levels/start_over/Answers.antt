use Rattle.std.proofs.Common.{◌≡◌, ℕ, ◌+◌, ◌-◌, ◌<◌, true, false, get_or, sym, refl, ◌∙◌, subst, arith}
use Rattle.std.proofs.lemmas.Bool.{both_ways, lt-ltb, le-ltb}
use Rattle.table.specs.Searches.{marked}
use Rattle.table.proofs.Searching.{searched_of, is_marked, is_unmarked}
use Rattle.table.proofs.Descending.{post_over, over_none, over_skip, over_more, over_found}
use Rattle.table.proofs.levels.start_over.Goals.{then-from-post_limit+then-search-buses-eq0+else-wanted, else-from-post_limit, else-from-post_limit-via-then-from-post_limit+else-search-buses-eq0, else-from-post_limit-via-else-from-post_limit}
use Rattle.table.proofs.levels.start_over.Goals as goal

pub loop-post-init : goal.loop-post-init
loop-post-init g c = (refl, refl, over_none _ _ _ _ _ _ (searched_of c.args.search.now.searched))

pub returns-then-wanted-clause-started : goal.returns-then-wanted-clause-started
returns-then-wanted-clause-started g c =
    let m = g.S.View.means c.args.search.now.net.now.0.0.now in
    let L = g.R.Rule.limits c.args.rule.now in
    let i = c.loop-post.invariant in
    let k = c.loop-post.post in
    let e = c.buses-buses.ensures in
    let lk : k < (g.S.View.means c.args.search.now.net.now.0.0.now).posts = omega (arith, c.posts-post-end.ensures) in
    let st = rw e at (rw i.0 at c.start.ensures.started) in
    let o = post_over m L c.args.level k lk (get_or c.args.loads.now k 0) (c.requires k lk) ∙ lt-ltb _ _ (omega (arith, c.post_limit.ensures, c.from.ensures, c.if-from-post_limit.true)) in
    let fresh = subst (λ (b : ℕ). marked c.loop-post.search.marks.now (b + c.loop-post.post) ≡ false) e (is_unmarked c.loop-post.search.marks.now (c.buses-buses.result + c.loop-post.post) c.if-search-buses-eq0.true) in
    let w = subst (λ (b : ℕ). g.G.Goal.wanted c.args.goal.now (b + c.loop-post.post) ≡ true) e (sym c.if-wanted.ensures) in
    over_found _ _ _ _ _ _ _ _ i.2 _ _ st o fresh (omega arith) w (c.len.result - 1) (omega (arith, c.len.ensures.value))

pub loop-post-preserved : goal.loop-post-preserved
loop-post-preserved g c =
    let m = g.S.View.means c.args.search.now.net.now.0.0.now in
    let L = g.R.Rule.limits c.args.rule.now in
    let i = c.loop-post.invariant in
    let k = c.loop-post.post in
    let e = c.buses-buses.ensures in
    let lk : k < (g.S.View.means c.args.search.now.net.now.0.0.now).posts = omega (arith, c.posts-post-end.ensures) in
    let at = post_over m L c.args.level k lk (get_or c.args.loads.now k 0) (c.requires k lk) in
    elim c.if-from-post_limit.branch [
      | then-from-post_limit+then-search-buses-eq0+else-wanted w ↦
          let st = rw e at (rw i.0 at w.start.ensures.started) in
          let o = at ∙ lt-ltb _ _ (omega (arith, c.post_limit.ensures, c.from.ensures, w.if-from-post_limit.true)) in
          let u = subst (λ (b : ℕ). g.G.Goal.wanted c.args.goal.now (b + c.loop-post.post) ≡ false) e (sym w.if-wanted.ensures) in
          simp (w.search-is) (w.start.ensures.over.0 ∙ i.0, w.start.ensures.over.1 ∙ i.1, over_more _ _ _ _ _ _ _ _ i.2 _ _ st o u)
      | else-from-post_limit w ↦
          simp (w.search-is) (
            i.0,
            i.1,
            elim w.else-from-post_limit.branch [
              | else-from-post_limit-via-then-from-post_limit+else-search-buses-eq0 v ↦
                  over_skip _ _ _ _ _ _ _ _ i.2 (λ _. subst (λ (b : ℕ). marked c.loop-post.search.marks.now (b + c.loop-post.post) ≡ true) e (is_marked c.loop-post.search.marks.now (c.buses-buses.result + c.loop-post.post) v.if-search-buses-eq0.false))
              | else-from-post_limit-via-else-from-post_limit v ↦
                  over_skip _ _ _ _ _ _ _ _ i.2 (λ h. absurd (both_ways _ (at ∙ le-ltb _ _ (omega (arith, c.post_limit.ensures, c.from.ensures, v.if-from-post_limit.false))) h))
            ],
          )
    ]

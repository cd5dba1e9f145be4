use Rattle.std.proofs.Common.{◌≡◌, ℕ, ◌+◌, ◌-◌, refl, ◌∙◌, subst, arith}
use Rattle.table.proofs.Descending.{Descending, descended_start, descended_search, descending_more}
use Rattle.table.proofs.levels.descend.Goals as goal

pub returns-in-Some-clause-descended : goal.returns-in-Some-clause-descended
returns-in-Some-clause-descended g c =
    let i = c.loop-level.invariant in
    let e : c.loop-level.level ≡ (c.loop-level.level - 1) + 1 = omega (arith, c.loop-level-test.true) in
    let d = subst (λ (n : ℕ). Descending (g.S.View.means c.args.search.now.net.now.0.0.now) (g.R.Rule.limits c.args.rule.now) (g.G.LevelGoal.sought c.args.goal.now) n c.loop-level.search.queue c.loop-level.search.marks.now) e i.3 in
    descended_start _ _ _ (g.met.R.Rule.lawful c.args.rule.now).rises (g.met.S.View.bounded c.args.search.now.net.now.0.0.now) c.requires.buses c.requires.up (c.loop-level.level - 1) _ _ d _ _ _ (rw i.0 at c.in-Some.ensures.started) c.in-Some.place refl c.args.low (omega (arith, i.2, c.loop-level-test.true))

pub returns-in-Some-run-clause-descended : goal.returns-in-Some-run-clause-descended
returns-in-Some-run-clause-descended g c =
    let i = c.loop-level.invariant in
    let e : c.loop-level.level ≡ (c.loop-level.level - 1) + 1 = omega (arith, c.loop-level-test.true) in
    let d = subst (λ (n : ℕ). Descending (g.S.View.means c.args.search.now.net.now.0.0.now) (g.R.Rule.limits c.args.rule.now) (g.G.LevelGoal.sought c.args.goal.now) n c.loop-level.search.queue c.loop-level.search.marks.now) e i.3 in
    let o = rw i.0 at c.in_default.ensures.started in
    let s = rw i.0 at (rw c.in_default.ensures.over.0 at c.in-Some-run.ensures.sought) in
    descended_search _ _ _ (g.met.R.Rule.lawful c.args.rule.now).rises (g.met.S.View.bounded c.args.search.now.net.now.0.0.now) c.requires.buses c.requires.up (c.loop-level.level - 1) _ _ d _ _ _ o refl _ _ c.in-Some-run.place s c.args.low (omega (arith, i.2, c.loop-level-test.true))

pub loop-level-preserved : goal.loop-level-preserved
loop-level-preserved g c =
    let i = c.loop-level.invariant in
    let e : c.loop-level.level ≡ (c.loop-level.level - 1) + 1 = omega (arith, c.loop-level-test.true) in
    let d = subst (λ (n : ℕ). Descending (g.S.View.means c.args.search.now.net.now.0.0.now) (g.R.Rule.limits c.args.rule.now) (g.G.LevelGoal.sought c.args.goal.now) n c.loop-level.search.queue c.loop-level.search.marks.now) e i.3 in
    let o = rw i.0 at c.in_default.ensures.started in
    let s = rw i.0 at (rw c.in_default.ensures.over.0 at c.in_default-run.ensures.sought) in (
      c.in_default-run.ensures.over.0 ∙ c.in_default.ensures.over.0 ∙ i.0,
      c.in_default-run.ensures.over.1 ∙ c.in_default.ensures.over.1 ∙ i.1,
      omega (arith, i.2, c.loop-level-test.true),
      descending_more _ _ _ (g.met.R.Rule.lawful c.args.rule.now).rises (g.met.S.View.bounded c.args.search.now.net.now.0.0.now) c.requires.buses c.requires.up (c.loop-level.level - 1) _ _ d _ _ _ o refl _ _ s,
    )

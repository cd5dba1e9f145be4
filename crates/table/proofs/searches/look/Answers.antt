use Rattle.std.proofs.Common.{ℕ, length, refl, ap, subst, arith}
use Rattle.table.specs.Searches.{AllNodes, FirstStray}
use Rattle.table.proofs.Searching.{within, nothing_found, chain_found, chain_of_one, reached_short, reached_stray, reached_found, reached_none}
use Rattle.table.proofs.searches.look.Goals as goal

pub returns-then-marks-nodes : goal.returns-then-marks-nodes
returns-then-marks-nodes g c = reached_short _ _ _ _ _ (omega (arith, c.nodes-nodes.ensures.count))

pub returns-in-Some : goal.returns-in-Some
returns-in-Some g c =
    reached_stray _ _ _ _ _ c.in-Some.start (omega (arith, c.nodes-nodes.ensures.count))
    (subst (λ (n : ℕ). FirstStray n c.args.starts.now c.in-Some.start) c.nodes-nodes.ensures.count c.in-Some.ensures)

pub returns-in-Some-start_all : goal.returns-in-Some-start_all
returns-in-Some-start_all g c =
    reached_found _ _ _ _ _ (omega (arith, c.nodes-nodes.ensures.count)) (subst (λ (n : ℕ). AllNodes n c.args.starts.now) c.nodes-nodes.ensures.count c.in_default.ensures) _
    (chain_of_one _ (g.N.Network.nodes c.args.net.now) _ _ _ (c.in-Some-start_all.ensures.started.finds _ refl))

pub offset_bounds-deref-place : goal.offset_bounds-deref-place
offset_bounds-deref-place g c =
    let s = c.in-Some-run.ensures.sought in
    omega (arith, (s.finds _ refl).1, within _ _ _ _ s.state, s.state.few)

pub bounds-deref-place : goal.bounds-deref-place
bounds-deref-place g c = omega (arith, (c.in-Some-run.ensures.sought.finds _ refl).1, ap length c.deref.ensures.0)

pub returns : goal.returns
returns g c =
    let a = rw c.over-search.ensures.over.0 at c.in_default-start_all.ensures.started in
    let b = rw c.over-search.ensures.over.0 at (rw c.in_default-start_all.ensures.over.0 at c.in-Some-run.ensures.sought) in
    rw c.deref.ensures.0 (reached_found _ _ _ _ _ (omega (arith, c.nodes-nodes.ensures.count)) (subst (λ (n : ℕ). AllNodes n c.args.starts.now) c.nodes-nodes.ensures.count c.in_default.ensures) _
    (chain_found _ _ _ _ _ _ _ _ _ a b))

pub returns-in_default-run : goal.returns-in_default-run
returns-in_default-run g c =
    let a = rw c.over-search.ensures.over.0 at c.in_default-start_all.ensures.started in
    let b = rw c.over-search.ensures.over.0 at (rw c.in_default-start_all.ensures.over.0 at c.in_default-run.ensures.sought) in
    let inside = subst (λ (n : ℕ). AllNodes n c.args.starts.now) c.nodes-nodes.ensures.count c.in_default.ensures in
    reached_none _ _ _ _ _ (omega (arith, c.nodes-nodes.ensures.count)) inside (nothing_found _ _ _ _ _ _ _ _ a b inside)

-- Blocks and ranks, read off the search down the levels.
use Rattle.std.proofs.Common.{◌≡◌, ℕ, suc, ◌<◌, ◌≤◌, true, false, eqb, List, pos, negsuc, Some, None, Option, sym, refl, ◌∙◌, subst, inl, inr, arith}
use Rattle.std.proofs.lemmas.Bool.{cases_eq, cases_Bool, both_ways, eqb-true, eq-eqb, ltb-true}
use Rattle.blocks.specs.Limits.{Limits, Rising, limit_at}
use Rattle.blocks.specs.Blocks.{block_at}
use Rattle.blocks.specs.Ranks.{rank}
use Rattle.blocks.specs.Chains.{end}
use Rattle.blocks.proofs.Posts.{top_empty}
use Rattle.blocks.proofs.Ranks.{rank_is, rank_none}
use Rattle.blocks.proofs.Yards.{reach_is_block, chain_block}
use Rattle.stores.specs.Meaning.{Meaning, Bounded}
use Rattle.table.specs.declared.queues.Queue.{Queue}
use Rattle.table.specs.Yards.{yard_of, sides_of}
use Rattle.table.specs.Searches.{len, node, marked}
use Rattle.table.specs.Levels.{size, load_of, Clear, Descended}
use Rattle.table.specs.Evening.{EvenSides}
use Rattle.table.specs.Reports.{BlockMarked}
use Rattle.table.proofs.Descending.{sized}
use Rattle.table.proofs.Trails.{trail_from}
use Rattle.table.proofs.EvenSides.{against_pairs, trail_chain, over_is_post, even_right}

-- looking for no node, all levels are gone through
pub block_marked : (m : Meaning) (L : Limits) → Rising L → Bounded m → EvenSides m L → (a : ℕ) → a ≤ 255 → (q : Queue) (marks : List ℕ) (r : Option (ℕ × ℕ))
    → Descended m L (λ _ _. false) a q marks r → BlockMarked m L a marks
block_marked m L rising bounded even a la q marks (Some v) d n w = absurd (both_ways false refl (d.finds v.0 v.1 refl).3)
block_marked m L rising bounded even a la q marks None d n w =
    reach_is_block (yard_of m) L (sides_of m) rising (sized m bounded) even a (omega arith) (marked marks) ((d.misses refl).1 (omega arith)) n w

module _ (m : Meaning) (L : Limits) (rising : Rising L) (bounded : Bounded m) (even : EvenSides m L) (x : ℕ) (lx : x < size m) (q : Queue) (marks : List ℕ) where
  -- at a level that is clear the node is not in the block
  clear_of : (c : ℕ) → c < 256 → Clear m L (λ _ n. eqb n x) c → block_at (yard_of m) L c x ≡ false
  clear_of c lc k = elim (cases_Bool (k.set_of x)) [
    | inl t ↦ absurd (both_ways (eqb x x) (k.unsought x lx t) (eq-eqb x x refl))
    | inr f ↦ sym (reach_is_block (yard_of m) L (sides_of m) rising (sized m bounded) even c lc k.set_of k.reach x lx) ∙ f
  ]

  pub ranked_none : Descended m L (λ _ n. eqb n x) 0 q marks None → rank (yard_of m) L x ≡ negsuc 0
  ranked_none d = rank_none (yard_of m) L rising x lx (clear_of 0 (omega arith) ((d.misses refl).0 0 (omega arith) (omega arith)))

  module _ (a place : ℕ) (d : Descended m L (λ _ n. eqb n x) 0 q marks (Some (a, place))) where
    la : a < 256
    la = (d.finds a place refl).1

    lp : place < len q
    lp = (d.finds a place refl).2

    here : node q place ≡ x
    here = eqb-true (node q place) x (d.finds a place refl).3

    -- the way back leads to a post over its limit
    in_block : block_at (yard_of m) L a x ≡ true
    in_block =
        let over = against_pairs m q marks d.state in
        let t = trail_from m q over (suc place) place (omega arith) lp in
        let c = trail_chain m q over d.state.found place t.0 t.1 lp in
        let r = c.1 in
        let o = ltb-true (limit_at m.buses L a (node q r.0)) (load_of m (node q r.0)) ((d.finds a place refl).4 r.0 r.1 r.2) in
        let o2 : limit_at m.buses L a (end (node q place) t.0) < load_of m (end (node q place) t.0) = subst (λ z. limit_at m.buses L a z < load_of m z) (sym r.3) o in
        let w : end (node q place) t.0 < size m = let i = d.state.inside r.0 r.1 in let e = r.3 in omega arith in
        subst (λ z. block_at (yard_of m) L a z ≡ true) here
        (chain_block (yard_of m) L (sides_of m) rising (sized m bounded) even a la (node q place) (d.state.inside place lp)
        (record { rest = t.0; chain = c.0; post = over_is_post m L (even_right m L even) a (end (node q place) t.0) o2; within = w; is_over = o2 }))

    above : block_at (yard_of m) L (suc a) x ≡ false
    above = elim (cases_eq a 255) [
      | inl e ↦ subst (λ z. block_at (yard_of m) L (suc z) x ≡ false) (sym e) (top_empty (yard_of m) L rising bounded.few_buses x lx)
      | inr n ↦ clear_of (suc a) (let l = la in omega arith) ((d.finds a place refl).5 (suc a) (omega arith) (let l = la in omega arith))
    ]

    pub ranked_some : rank (yard_of m) L x ≡ pos a
    ranked_some = rank_is (yard_of m) L rising a x la lx in_block above

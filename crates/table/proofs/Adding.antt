-- A pair added to a store with even sides, and one chain turned after it.
use Rattle.std.proofs.Common.{◌≡◌, ℕ, ◌+◌, ◌<◌, ◌≤◌, Bool, true, false, cond, not, ◌&&◌, ◌||◌, eqb, ltb, leb, List, Some, None, Option, sym, refl, ap, ◌∙◌, subst, ap₂, inl, inr, arith}
use mathlib.Core.Path.{fun_ext}
use Rattle.std.proofs.lemmas.Bool.{cases_lt, both_ways, ltb-true, lt-ltb, le-leb, leb-true, and_parts, and_from, or_left}
use Rattle.blocks.specs.Limits.{Limits, Rising, limit_at}
use Rattle.blocks.specs.Yards.{add}
use Rattle.blocks.specs.Networks.{Walk, here, step}
use Rattle.blocks.specs.Chains.{Chain, end}
use Rattle.blocks.specs.Sides.{EvenNetwork, pointing, flipped, in_chain, OneChainTurned}
use Rattle.blocks.specs.Sides as sides
use Rattle.blocks.proofs.OnePair as one-pair
use Rattle.blocks.proofs.Yards.{net_of}
use Rattle.stores.specs.Meaning.{Meaning, Bounded, put, other, stands, by_post}
use Rattle.stores.specs.declared.pairs.Side.{Side}
use Rattle.stores.specs.declared.pairs.Side.TheVariants.{Bus as bus_side, Post}
use Rattle.table.specs.declared.queues.Queue.{Queue}
use Rattle.table.specs.Yards.{yard_of, sides_of, leads_of, along}
use Rattle.table.specs.Searches.{len, node, from, marked, Started, Sought, TurnedBack}
use Rattle.table.specs.Levels.{against, size, load_of, under, LoadsOf}
use Rattle.table.specs.Buses.{on_side}
use Rattle.table.specs.Evening.{EvenSides}
use Rattle.table.specs.Updates.{AllLeading, Chosen, AddedEven}
use Rattle.table.proofs.Descending.{sized}
use Rattle.table.proofs.EvenSides.{along_yard, along_leads, against_pairs, trail_chain, under_is, bus_load}

-- a search that wants nothing finds nothing
wants_nothing : (m : Meaning) (r s : Queue) (marks : List ℕ) (a : Option ℕ) → Sought (against m) (size m) (λ _. false) r s marks a → a ≡ None
wants_nothing m r s marks None so = refl
wants_nothing m r s marks (Some i) so = absurd (both_ways false refl (so.finds i refl).2)

-- so a search against the pointing from one start finds all that leads to it
pub all_leading : (m : Meaning) → Bounded m → (x : ℕ) (q r s : Queue) (marks marks' marks'' : List ℕ) (a : Option ℕ) → x < size m → len q ≡ 0
    → Started (against m) (size m) q r marks marks' x → Sought (against m) (size m) (λ _. false) r s marks'' a → AllLeading m x s
all_leading m bounded x q r s marks marks' marks'' a lx el st so = record {
  over = against_pairs m s marks'' so.state;
  found = so.state.found;
  some = omega (arith, some_r, so.grown.longer);
  first = so.grown.same_node 0 some_r ∙ (st.is_start 0 (omega arith) some_r).0;
  only = λ i l e. elim (cases_lt i (len r)) [
    | inl h ↦ at_most_one i h
    | inr h ↦ absurd (omega (arith, so.grown.no_start i h l))
  ];
  all = λ n l w. leading n w l;
}
  where
    some_r : 0 < len r
    some_r = let f = st.state.found_marked x lx st.there in let l = f.1 in omega arith

    at_most_one : (i : ℕ) → i < len r → i ≡ 0
    at_most_one i h = st.state.once i 0 h some_r ((st.is_start i (omega arith) h).0 ∙ sym (st.is_start 0 (omega arith) some_r).0)

    start_marked : marked marks'' x ≡ true
    start_marked =
        sym (ap (marked marks'') (so.grown.same_node 0 some_r ∙ (st.is_start 0 (omega arith) some_r).0)) ∙ so.state.marks_found 0 (omega (arith, some_r, so.grown.longer))

    is_marked : (n : ℕ) → Walk (leads_of m) n x → n < size m → marked marks'' n ≡ true
    is_marked n here l = start_marked
    is_marked n (step {y = y} k w) l =
        let ly = ((net_of (yard_of m) (sides_of m) (sized m bounded)).within n y k).1 in
        let f = so.state.found_marked y ly (is_marked y w ly) in
        let lf = f.1 in
        so.state.closed f.0 n (omega (arith, (so.misses (wants_nothing m r s marks'' a so)).0)) l (ap (leads_of m n) f.2 ∙ k)

    leading : (n : ℕ) → Walk (leads_of m) n x → n < size m → (i : ℕ) × (i < len s) × (node s i ≡ n)
    leading n w l = so.state.found_marked n l (is_marked n w l)

-- the side of a standing pair, turned or not
pub side_turned : (u : Bool) (r : Option Side) → stands r ≡ true → by_post (cond u (other r) r) ≡ cond u (not (by_post r)) (by_post r)
side_turned true None e = absurd (both_ways false refl e)
side_turned true (Some bus_side) e = refl
side_turned true (Some Post) e = refl
side_turned false r e = refl

-- one pair put in: its yard and its sides
module _ (m : Meaning) (b p : ℕ) (s : Option Side) where
  or_true : (x : Bool) → true ≡ (x || true)
  or_true x = grind arith

  or_false : (x : Bool) → x ≡ (x || false)
  or_false x = grind arith

  put_stands : stands s ≡ true → (t : Bool) (r : Option Side) → stands (cond t s r) ≡ (stands r || t)
  put_stands e true r = e ∙ or_true (stands r)
  put_stands e false r = or_false (stands r)

  put_side : (t : Bool) (r : Option Side) → by_post (cond t s r) ≡ cond t (by_post s) (by_post r)
  put_side true r = refl
  put_side false r = refl

  pub put_yard : stands s ≡ true → yard_of (put b p s m) ≡ add b p (yard_of m)
  put_yard e i = record { buses = m.buses; posts = m.posts; paired = fun_ext (λ c. fun_ext (λ q. put_stands e (eqb c b && eqb q p) (m.standing c q))) i }

  pub put_sides : sides_of (put b p s m) ≡ sides.put b p (by_post s) (sides_of m)
  put_sides = fun_ext (λ c. fun_ext (λ q. put_side (eqb c b && eqb q p) (m.standing c q)))

  pub put_leads : stands s ≡ true → leads_of (put b p s m) ≡ pointing m.buses (add b p (yard_of m)).paired (sides.put b p (by_post s) (sides_of m))
  put_leads e = ap₂ (pointing m.buses) (ap (λ Y. Y.paired) (put_yard e)) put_sides

module _ (m : Meaning) (L : Limits) (rising : Rising L) (bounded : Bounded m) (even : EvenSides m L) (b p : ℕ) (lb : b < m.buses) (lp : p < m.posts) (absent : m.standing b p ≡ None) where
  fresh : (yard_of m).paired b p ≡ false
  fresh = ap stands absent

  -- the bus is below its limit and carries the pair
  pub added_to_bus : on_side m bus_side b < L.bus b → AddedEven m (put b p (Some bus_side) m) L b p
  added_to_bus under-limit = record {
    yard = put_yard m b p (Some bus_side) refl;
    even = subst (λ g. EvenNetwork m.buses (size m) 256 (limit_at m.buses L) g) (sym (put_leads m b p (Some bus_side) refl))
        (one-pair.add_to_bus (yard_of m) L (sides_of m) rising (sized m bounded) even b p lb lp fresh (omega (arith, bus_load m b lb)));
    chain = subst (OneChainTurned (yard_of m) (yard_of m).paired (sides_of m)) (sym (put_sides m b p (Some bus_side)))
        (one-pair.add_to_bus_chain (yard_of m) L (sides_of m) rising (sized m bounded) even b p lb lp fresh);
  }

  -- the post carries it, and the way back from the chosen place to the post has been turned
  module _ (full : L.bus b ≤ on_side m bus_side b) (loads : List ℕ) (loads-right : LoadsOf m loads) (q : Queue) (all : AllLeading (put b p (Some Post) m) (m.buses + p) q)
      (place : ℕ) (chosen : Chosen (under loads L m.buses m.posts) q place) (n : Meaning) (t : TurnedBack q place (put b p (Some Post) m) n) where
    more_is : leads_of (put b p (Some Post) m) ≡ pointing m.buses (add b p (yard_of m)).paired (sides.put b p true (sides_of m))
    more_is = put_leads m b p (Some Post) refl

    x_in : node q place < size m
    x_in = all.over.inside place chosen.inside

    under_of : (c k : ℕ) → k < size m → under loads L m.buses m.posts c k ≡ true → (m.buses ≤ k) × (load_of m k < limit_at m.buses L c k)
    under_of c k lk e =
        let u = and_parts (leb m.buses k) (ltb (load_of m k) (limit_at m.buses L c k)) (sym (under_is m L loads bounded loads-right c k lk) ∙ e) in
        (leb-true m.buses k u.0, ltb-true (load_of m k) (limit_at m.buses L c k) u.1)

    x_post : m.buses ≤ node q place
    x_post = elim chosen.which [
      | inl e ↦ let f = ap (node q) e ∙ all.first in omega arith
      | inr h ↦ (under_of h.0 (node q place) x_in h.2).0
    ]

    the_chain : Chain (leads_of (put b p (Some Post) m)) (node q place) t.trail × ((r : ℕ) × (r < len q) × (from q r ≡ r) × (end (node q place) t.trail ≡ node q r))
    the_chain = trail_chain (put b p (Some Post) m) q all.over all.found place t.trail t.is_trail chosen.inside

    ends : end (node q place) t.trail ≡ m.buses + p
    ends = let r = the_chain.1 in r.3 ∙ ap (node q) (all.only r.0 r.1 r.2) ∙ all.first

    new_chain : Chain (pointing m.buses (add b p (yard_of m)).paired (sides.put b p true (sides_of m))) (node q place) t.trail
    new_chain = subst (λ g. Chain g (node q place) t.trail) more_is the_chain.0

    choice : (k a : ℕ) → m.buses ≤ k → k < size m → a < 256 → Walk (pointing m.buses (add b p (yard_of m)).paired (sides.put b p true (sides_of m))) k (m.buses + p)
        → load_of m k < limit_at m.buses L a k → load_of m (node q place) < limit_at m.buses L a (node q place)
    choice k a bk lk la w low_load =
        let i = all.all k lk (subst (λ g. Walk g k (m.buses + p)) (sym more_is) w) in
        let s = ap (under loads L m.buses m.posts a) i.2 ∙ under_is m L loads bounded loads-right a k lk
        ∙ and_from (leb m.buses k) (ltb (load_of m k) (limit_at m.buses L a k)) (le-leb m.buses k bk) (lt-ltb (load_of m k) (limit_at m.buses L a k) low_load) in
        (under_of a (node q place) x_in (chosen.wherever a i.0 la i.1 s)).1

    turned_leads : leads_of (along (node q place) t.trail (put b p (Some Post) m)) ≡ pointing m.buses (add b p (yard_of m)).paired (flipped m.buses (node q place) t.trail (sides.put b p true (sides_of m)))
    turned_leads =
        along_leads (put b p (Some Post) m) (node q place) t.trail
        ∙ ap₂ (pointing m.buses) (ap (λ Y. Y.paired) (put_yard m b p (Some Post) refl)) (ap (flipped m.buses (node q place) t.trail) (put_sides m b p (Some Post)))

    pub added_to_post : AddedEven m n L b p
    added_to_post =
        let old = one-pair.add_to_post_chain (yard_of m) L (sides_of m) rising (sized m bounded) even b p lb lp fresh (node q place) t.trail new_chain ends in
        record {
          yard = ap yard_of t.changes ∙ along_yard (put b p (Some Post) m) (node q place) t.trail ∙ put_yard m b p (Some Post) refl;
          even = subst (λ k. EvenSides k L) (sym t.changes)
              (subst (λ g. EvenNetwork m.buses (size m) 256 (limit_at m.buses L) g) (sym turned_leads)
              (one-pair.add_to_post (yard_of m) L (sides_of m) rising (sized m bounded) even b p lb lp fresh (node q place) t.trail new_chain ends
              (omega (arith, bus_load m b lb)) x_post x_in choice));
          chain = record {
            first = old.first;
            rest = old.rest;
            chain = old.chain;
            exactly = λ c k h.
                let s1 : stands ((put b p (Some Post) m).standing c k) ≡ true = ap (λ Y. Y.paired c k) (put_yard m b p (Some Post) refl) ∙ or_left (stands (m.standing c k)) (eqb c b && eqb k p) h in
                ap (λ z. sides_of z c k) t.changes
                ∙ side_turned (in_chain m.buses (node q place) t.trail c k) ((put b p (Some Post) m).standing c k) s1
                ∙ ap (λ f. flipped m.buses (node q place) t.trail f c k) (put_sides m b p (Some Post))
                ∙ old.exactly c k h;
          };
        }

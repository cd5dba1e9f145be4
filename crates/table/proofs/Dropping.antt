-- A pair dropped from a store with even sides, and one chain turned before it.
use Rattle.std.proofs.Common.{◌≡◌, ℕ, ◌+◌, ◌<◌, ◌≤◌, Bool, true, false, cond, not, ◌&&◌, eqb, List, [], ◌∷◌, Some, None, Result, sym, refl, ap, ◌∙◌, subst, ap₂, inl, inr, arith, Option}
use mathlib.Core.Path.{fun_ext}
use Rattle.std.proofs.lemmas.Bool.{cases_eq, cases_lt, both_ways, eq-eqb, eqb-true, ltb-true}
use Rattle.std.proofs.lemmas.Bool.Decides.{nat_tests}
use Rattle.blocks.specs.Limits.{Limits, Rising, limit_at}
use Rattle.blocks.specs.Yards.{drop}
use Rattle.blocks.specs.Networks.{Leads, Walk, here, step}
use Rattle.blocks.specs.Chains.{NoneOf, Chain, end, without_lead}
use Rattle.blocks.specs.Sides.{EvenNetwork, pointing, flipped, in_chain, OneChainTurned}
use Rattle.blocks.specs.Sides as sides
use Rattle.blocks.proofs.Changes.{removed_walk}
use Rattle.blocks.proofs.OnePair as one-pair
use Rattle.blocks.proofs.Levels.{rise_le, level_rise}
use Rattle.stores.specs.Meaning.{Meaning, Bounded, put, other, stands, by_post}
use Rattle.stores.specs.declared.pairs.Side.{Side}
use Rattle.stores.specs.declared.pairs.Side.TheVariants.{Bus as bus_side, Post as post_side}
use Rattle.stores.specs.declared.faults.StoreFault.{StoreFault}
use Rattle.stores.specs.Promises.{Turned}
use Rattle.table.specs.declared.queues.Queue.{Queue}
use Rattle.table.specs.Yards.{yard_of, sides_of, leads_of, along}
use Rattle.table.specs.Searches.{len, node, from, TurnedBack}
use Rattle.table.specs.Levels.{size, load_of, Clear, Descended}
use Rattle.table.specs.Buses.{pairs_of, on_side, SamePairs}
use Rattle.table.specs.Evening.{EvenSides}
use Rattle.table.specs.Updates.{Droppable, DroppedEven, TurnedFrom, WayMade}
use Rattle.table.proofs.Descending.{sized}
use Rattle.table.proofs.Trails.{step_turned}
use Rattle.table.proofs.SettlingBuses.{both_sides}
use Rattle.table.proofs.EvenSides.{along_pairs, along_yard, along_leads, against_pairs, trail_chain, bus_degree, over_is_post, even_right}
use Rattle.table.proofs.Adding.{put_sides, side_turned}

-- a chain from y uses no lead to y
off_first : (leads : Leads) (x y z : ℕ) (vs : List ℕ) → NoneOf y vs → Chain leads z vs → Chain (without_lead x y leads) z vs
off_first leads x y z [] n c = tt
off_first leads x y z (v ∷ vs) n c = (kept (leads z v) (eqb z x) (eqb v y) c.0 (apart v n.0), c.1, off_first leads x y v vs n.1 c.2)
  where
    kept : (k s t : Bool) → k ≡ true → t ≡ false → (not (s && t) && k) ≡ true
    kept k s t e f = grind arith

    apart : (v : ℕ) → (y ≡ v → ⊥) → eqb v y ≡ false
    apart v d = grind (arith, nat_tests)

without_first : (leads : Leads) (x y : ℕ) (vs : List ℕ) → Chain leads y vs → Chain (without_lead x y leads) y vs
without_first leads x y [] c = tt
without_first leads x y (v ∷ vs) c = off_first leads x y y (v ∷ vs) c.1 c

-- one pair taken out: its yard and its sides, whether other pairs turn before or after
module _ (m : Meaning) (b p : ℕ) where
  gone : (t : Bool) (r : Option Side) → stands (cond t None r) ≡ (stands r && not t)
  gone true r = off (stands r)
    where
      off : (k : Bool) → false ≡ (k && false)
      off k = grind arith
  gone false r = on (stands r)
    where
      on : (k : Bool) → k ≡ (k && true)
      on k = grind arith

  pub drop_yard : yard_of (put b p None m) ≡ drop b p (yard_of m)
  drop_yard i = record { buses = m.buses; posts = m.posts; paired = fun_ext (λ c. fun_ext (λ q. gone (eqb c b && eqb q p) (m.standing c q))) i }

  pub drop_leads : leads_of (put b p None m) ≡ pointing m.buses (drop b p (yard_of m)).paired (sides.put b p false (sides_of m))
  drop_leads = ap₂ (pointing m.buses) (ap (λ Y. Y.paired) drop_yard) (put_sides m b p None)

  either_order : (u t : Bool) (r : Option Side) → cond t None (cond u (other r) r) ≡ cond u (other (cond t None r)) (cond t None r)
  either_order true true r = refl
  either_order true false r = refl
  either_order false true r = refl
  either_order false false r = refl

  pub turned_before : (y : ℕ) (vs : List ℕ) → put b p None (along y vs m) ≡ along y vs (put b p None m)
  turned_before y vs i = record {
    buses = m.buses;
    posts = m.posts;
    standing = fun_ext (λ c. fun_ext (λ q. either_order (in_chain m.buses y vs c q) (eqb c b && eqb q p) (m.standing c q))) i;
  }

module _ (m : Meaning) (L : Limits) (rising : Rising L) (bounded : Bounded m) (even : EvenSides m L) where
  -- at a level that is clear no walk leads from the node to one over its limit
  clear_walk : (y : ℕ) → y < size m → (c : ℕ) → Clear m L (λ _ n. eqb n y) c → (k : ℕ) → k < size m → Walk (leads_of m) y k → limit_at m.buses L c k < load_of m k → ⊥
  clear_walk y ly c clear k lk w o = both_ways (eqb y y) (clear.unsought y ly (back w (clear.reach.over_in k lk o))) (eq-eqb y y refl)
    where
      back : {u v : ℕ} → Walk (leads_of m) u v → clear.set_of v ≡ true → clear.set_of u ≡ true
      back here e = e
      back (step {x = u} {y = v} k t) e = clear.reach.back u v k (back t e)

  -- a limit is no higher at a lower level
  lower : (c a z : ℕ) → c ≤ a → a < 256 → z < size m → limit_at m.buses L c z ≤ limit_at m.buses L a z
  lower c a z h la lz = elim (cases_eq c a) [
    | inl e ↦ let f = ap (λ k. limit_at m.buses L k z) e in omega arith
    | inr d ↦ rise_le m.buses m.posts (limit_at m.buses L c) (limit_at m.buses L a) (level_rise (yard_of m) L rising c a (omega arith) (omega arith)) z lz
  ]

  -- the way back from the node itself to the post over its limit at the highest level, turned
  module _ (y : ℕ) (ly : y < size m) (q : Queue) (marks : List ℕ) (a place : ℕ) (d : Descended m L (λ _ n. eqb n y) 0 q marks (Some (a, place))) (n : Meaning) (t : TurnedBack q place m n) where
    is_y : node q place ≡ y
    is_y = eqb-true (node q place) y (d.finds a place refl).3

    the_chain : Chain (leads_of m) (node q place) t.trail × ((r : ℕ) × (r < len q) × (from q r ≡ r) × (end (node q place) t.trail ≡ node q r))
    the_chain = trail_chain m q (against_pairs m q marks d.state) d.state.found place t.trail t.is_trail (d.finds a place refl).2

    last_is : end y t.trail ≡ node q the_chain.1.0
    last_is = ap (λ z. end z t.trail) (sym is_y) ∙ the_chain.1.3

    last_over : limit_at m.buses L a (end y t.trail) < load_of m (end y t.trail)
    last_over =
        let r = the_chain.1 in
        subst (λ z. limit_at m.buses L a z < load_of m z) (sym last_is) (ltb-true (limit_at m.buses L a (node q r.0)) (load_of m (node q r.0)) ((d.finds a place refl).4 r.0 r.1 r.2))

    last_in : end y t.trail < size m
    last_in = let r = the_chain.1 in let w = d.state.inside r.0 r.1 in let e = last_is in omega arith

    last_post : m.buses ≤ end y t.trail
    last_post = over_is_post m L (even_right m L even) a (end y t.trail) last_over

    pub turned_found : TurnedFrom m n L y
    turned_found = record {
      rest = t.trail;
      chain = subst (λ z. Chain (leads_of m) z t.trail) is_y the_chain.0;
      changes = t.changes ∙ ap (λ z. along z t.trail m) is_y;
      post = last_post;
      inside = last_in;
      wherever = λ k c bk lk lc w o. elim (cases_lt a c) [
        | inl h ↦ absurd (clear_walk y ly c ((d.finds a place refl).5 c h lc) k lk w o)
        | inr h ↦ omega (arith, last_over, lower c a (end y t.trail) h (d.finds a place refl).1 last_in)
      ];
    }

  -- no post that y leads to is over any limit: any chain to a post will do
  pub turned_free : (y : ℕ) → y < size m → (q : Queue) (marks : List ℕ) → Descended m L (λ _ n. eqb n y) 0 q marks None
      → (n : Meaning) (vs : List ℕ) → Chain (leads_of m) y vs → n ≡ along y vs m → m.buses ≤ end y vs → end y vs < size m → TurnedFrom m n L y
  turned_free y ly q marks d n vs c e bp lp = record {
    rest = vs;
    chain = c;
    changes = e;
    post = bp;
    inside = lp;
    wherever = λ k a bk lk la w o. absurd (clear_walk y ly a ((d.misses refl).0 a (omega arith) la) k lk w o);
  }

  -- so any pair of a bus that its post carries may go over to the bus
  pub turned_one : (b : ℕ) → b < m.buses → (q : Queue) (marks : List ℕ) → Descended m L (λ _ n. eqb n b) 0 q marks None → (p : ℕ) → m.standing b p ≡ (Some post_side)
      → (n : Meaning) (room room' : ℕ) (r : Result (Unit {0}) StoreFault) → Turned m n room room' b p r → (room' ≡ room) × TurnedFrom m n L b
  turned_one b lb q marks d p e n room room' r t =
      let done = t.turns lb lp there in (
        done.1,
        turned_free b (omega arith) q marks d n ((m.buses + p) ∷ []) (link, (apart, tt), tt) (done.0.meaning ∙ step_turned m b (m.buses + p) [] b p (inl (refl, refl)) lb (apart, tt)) (omega arith) (omega (arith, lp)),
      )
    where
      there : m.standing b p ≡ None → ⊥
      there h = both_ways (stands (m.standing b p)) (ap stands h) (ap stands e)

      lp : p < m.posts
      lp = elim (cases_lt p m.posts) [ inl h ↦ h | inr h ↦ absurd (there (bounded.no_post b p h)) ]

      apart : b ≡ m.buses + p → ⊥
      apart h = omega arith

      link : leads_of m b (m.buses + p) ≡ true
      link = one-pair.post_link (yard_of m) L (sides_of m) rising (sized m bounded) even b p lb lp (ap stands e) false (ap by_post e)

  module _ (b p : ℕ) (lb : b < m.buses) (lp : p < m.posts) (held : stands (m.standing b p) ≡ true) where
    -- the end y carried the pair, and one chain from it has turned
    module _ (x y : ℕ) (link : leads_of m x y ≡ true)
        (fewer-is : pointing m.buses (drop b p (yard_of m)).paired (sides.put b p false (sides_of m)) ≡ without_lead x y (leads_of m))
        (heavy : y < m.buses → L.bus y < pairs_of m y) (n : Meaning) (t : TurnedFrom m n L y) where
      fewer_chain : Chain (pointing m.buses (drop b p (yard_of m)).paired (sides.put b p false (sides_of m))) y t.rest
      fewer_chain = subst (λ g. Chain g y t.rest) (sym fewer-is) (without_first (leads_of m) x y t.rest t.chain)

      after_is : put b p None n ≡ along y t.rest (put b p None m)
      after_is = ap (put b p None) t.changes ∙ turned_before m b p y t.rest

      after_leads : leads_of (along y t.rest (put b p None m)) ≡ pointing m.buses (drop b p (yard_of m)).paired (flipped m.buses y t.rest (sides.put b p false (sides_of m)))
      after_leads =
          along_leads (put b p None m) y t.rest
          ∙ ap₂ (pointing m.buses) (ap (λ Y. Y.paired) (drop_yard m b p)) (ap (flipped m.buses y t.rest) (put_sides m b p None))

      dropped_turned : DroppedEven m (put b p None n) L b p
      dropped_turned =
          let old = one-pair.drop_chain (yard_of m) L (sides_of m) rising (sized m bounded) even b p lb lp held false x y link fewer-is t.rest fewer_chain in
          record {
            yard = ap yard_of after_is ∙ along_yard (put b p None m) y t.rest ∙ drop_yard m b p;
            even = subst (λ k. EvenSides k L) (sym after_is)
                (subst (λ g. EvenNetwork m.buses (size m) 256 (limit_at m.buses L) g) (sym after_leads)
                (one-pair.drop_even (yard_of m) L (sides_of m) rising (sized m bounded) even b p lb lp held false x y link fewer-is t.rest fewer_chain
                (λ h. let k = heavy h in omega (arith, bus_degree m y h)) t.post t.inside
                (λ k a bk lk la w o. t.wherever k a bk lk la (removed_walk (leads_of m) x y y k (subst (λ g. Walk g y k) fewer-is w)) o)));
            chain = record {
              first = old.first;
              rest = old.rest;
              chain = old.chain;
              exactly = λ c k h.
                  let s1 : stands ((put b p None m).standing c k) ≡ true = ap (λ Y. Y.paired c k) (drop_yard m b p) ∙ h in
                  ap (λ z. sides_of z c k) after_is
                  ∙ side_turned (in_chain m.buses y t.rest c k) ((put b p None m).standing c k) s1
                  ∙ ap (λ f. flipped m.buses y t.rest f c k) (put_sides m b p None)
                  ∙ old.exactly c k h;
            };
          }

    -- the post carried it
    pub dropped_from_post : m.standing b p ≡ (Some post_side) → (n : Meaning) → TurnedFrom m n L (m.buses + p) → DroppedEven m (put b p None n) L b p
    dropped_from_post e n t =
        dropped_turned b (m.buses + p) (one-pair.post_link (yard_of m) L (sides_of m) rising (sized m bounded) even b p lb lp held false (ap by_post e))
        (one-pair.from_post_is (yard_of m) L (sides_of m) rising (sized m bounded) even b p lb lp held false (ap by_post e)) (λ h. absurd (omega arith)) n t

    -- the bus carried it, and has more pairs than its limit
    pub dropped_from_bus : m.standing b p ≡ (Some bus_side) → L.bus b < pairs_of m b → (n : Meaning) → TurnedFrom m n L b → DroppedEven m (put b p None n) L b p
    dropped_from_bus e heavy n t =
        dropped_turned (m.buses + p) b (one-pair.bus_link (yard_of m) L (sides_of m) rising (sized m bounded) even b p lb lp held false (ap by_post e))
        (one-pair.from_bus_is (yard_of m) L (sides_of m) rising (sized m bounded) even b p lb lp held false (ap by_post e)) (λ _. heavy) n t

    -- the bus carried it, and has no more pairs than its limit: nothing turns
    pub dropped_light : m.standing b p ≡ (Some bus_side) → pairs_of m b ≤ L.bus b → DroppedEven m (put b p None m) L b p
    dropped_light e light = record {
      yard = drop_yard m b p;
      even = subst (λ g. EvenNetwork m.buses (size m) 256 (limit_at m.buses L) g) (sym (drop_leads m b p))
          (one-pair.drop_light (yard_of m) L (sides_of m) rising (sized m bounded) even b p lb lp held false (m.buses + p) b
          (one-pair.bus_link (yard_of m) L (sides_of m) rising (sized m bounded) even b p lb lp held false (ap by_post e))
          (one-pair.from_bus_is (yard_of m) L (sides_of m) rising (sized m bounded) even b p lb lp held false (ap by_post e)) lb (omega (arith, bus_degree m b lb)));
      chain = subst (OneChainTurned (yard_of m) (drop b p (yard_of m)).paired (sides_of m)) (sym (put_sides m b p None))
          (one-pair.drop_light_chain (yard_of m) L (sides_of m) rising (sized m bounded) even b p lb lp held false);
    }

on_post : (s : Option Side) → by_post s ≡ true → s ≡ (Some post_side)
on_post None e = absurd (both_ways false refl e)
on_post (Some bus_side) e = absurd (both_ways false refl e)
on_post (Some post_side) e = refl

on_bus : (s : Option Side) → stands s ≡ true → by_post s ≡ false → s ≡ (Some bus_side)
on_bus None h e = absurd (both_ways false refl h)
on_bus (Some bus_side) h e = refl
on_bus (Some post_side) h e = absurd (both_ways true e refl)

only_sides : (m n : Meaning) (L : Limits) (y : ℕ) → TurnedFrom m n L y → SamePairs m n
only_sides m n L y t = subst (SamePairs m) (sym t.changes) (along_pairs m y t.rest)

-- the ways in which a pair may go, by what the code knows
module _ (m : Meaning) (L : Limits) (rising : Rising L) (bounded : Bounded m) (even : EvenSides m L) (b p : ℕ) (fits : Droppable m b p) where
  pub way_post : by_post (m.standing b p) ≡ true → (n : Meaning) → TurnedFrom m n L (m.buses + p) → WayMade m n L b p
  way_post e n t = record {
    pairs = only_sides m n L (m.buses + p) t;
    dropped = dropped_from_post m L rising bounded even b p fits.bus fits.post fits.held (on_post (m.standing b p) e) n t;
  }

  -- a bus with more pairs than its limit has one that its post carries
  pub bus_leads : L.bus b < on_side m bus_side b + on_side m post_side b → 0 < on_side m post_side b
  bus_leads heavy = omega (arith, even_right m L even b fits.bus, both_sides m b)

  pub way_bus : by_post (m.standing b p) ≡ false → L.bus b < on_side m bus_side b + on_side m post_side b → (n : Meaning) → TurnedFrom m n L b → WayMade m n L b p
  way_bus e heavy n t = record {
    pairs = only_sides m n L b t;
    dropped = dropped_from_bus m L rising bounded even b p fits.bus fits.post fits.held (on_bus (m.standing b p) fits.held e) (omega (arith, both_sides m b)) n t;
  }

  pub way_light : by_post (m.standing b p) ≡ false → on_side m bus_side b + on_side m post_side b ≤ L.bus b → WayMade m m L b p
  way_light e light = record {
    pairs = record { buses = refl; posts = refl; same = λ c q. refl };
    dropped = dropped_light m L rising bounded even b p fits.bus fits.post fits.held (on_bus (m.standing b p) fits.held e) (omega (arith, both_sides m b));
  }

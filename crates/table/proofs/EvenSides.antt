-- Even sides, and what one turned chain does to a store's meaning.
use Rattle.std.proofs.Common.{◌≡◌, ℕ, zero, suc, ◌+◌, ◌-◌, ◌<◌, ◌≤◌, min, Bool, true, false, cond, not, ◌&&◌, eqb, ltb, leb, ◌⊎◌, List, get_or, Some, None, Option, sym, refl, ap, ◌∙◌, subst, ap₂, inl, inr, arith}
use Rattle.std.specs.Option.{option_map}
use mathlib.Core.Path.{fun_ext}
use Rattle.std.proofs.lemmas.Bool.{cases_eq, cases_lt, both_ways, ltb-true, lt-ltb, le-leb, lt-leb, leb-true, ne_eqb, and_parts, and_from}
use Rattle.blocks.specs.Sums.{sum, bit}
use Rattle.blocks.specs.Limits.{Limits, Rising, limit_at}
use Rattle.blocks.specs.Networks.{load, degree, over, Walk, here, step}
use Rattle.blocks.specs.Chains.{Chain, end, turned}
use Rattle.blocks.specs.Sides.{Sides, pointing, in_chain, flipped}
use Rattle.blocks.proofs.Sums.{sum_cong, sum_none, sum_split}
use Rattle.blocks.proofs.Chains.{chain_walk, chain_load}
use Rattle.blocks.proofs.Flips.{low, high, from_bus, from_post, flip_turns}
use Rattle.blocks.proofs.Levels.{at_bus, at_post}
use Rattle.blocks.proofs.Reading as reading
use Rattle.blocks.proofs.Yards.{net_of, settling_ends_lem}
use Rattle.stores.specs.Meaning.{Meaning, Bounded, stands, by_post, other}
use Rattle.stores.specs.declared.pairs.Side.{Side}
use Rattle.stores.specs.declared.pairs.Side.TheVariants.{Bus as bus_side, Post}
use Rattle.table.specs.declared.queues.Queue.{Queue}
use Rattle.table.specs.Yards.{yard_of, sides_of, leads_of, along}
use Rattle.table.specs.Searches.{len, node, from, Searched, Trail, at_start, earlier, OverPairs, TurnedBack}
use Rattle.table.specs.Levels.{against, size, load_of, over_at, under_at, under, LoadsOf, BusesWithin, Upward, Clear, Descended}
use Rattle.table.specs.Buses.{on_side, pairs_of, BusesRight, SamePairs, BusesSettled}
use Rattle.table.specs.Evening.{EvenSides, Uneven, ChainTurned, Settled, unevenness}
use Rattle.table.proofs.Searching.{within}
use Rattle.table.proofs.Trails.{trail_none}
use Rattle.table.proofs.Descending.{sized}

-- every pair of a chain turned: the same pairs, and the network of the chain turned
module _ (m : Meaning) (x : ℕ) (vs : List ℕ) where
  still : (t : Bool) (s : Option Side) → stands (cond t (other s) s) ≡ stands s
  still true None = refl
  still true (Some bus_side) = refl
  still true (Some Post) = refl
  still false s = refl

  pub along_paired : (b p : ℕ) → (yard_of (along x vs m)).paired b p ≡ (yard_of m).paired b p
  along_paired b p = still (in_chain m.buses x vs b p) (m.standing b p)

  pub along_yard : yard_of (along x vs m) ≡ yard_of m
  along_yard i = record { buses = m.buses; posts = m.posts; paired = fun_ext (λ b. fun_ext (λ p. along_paired b p)) i }

  pub along_pairs : SamePairs m (along x vs m)
  along_pairs = record { buses = refl; posts = refl; same = along_paired }

  side_bus : (t : Bool) (s : Option Side) → (stands (cond t (other s) s) && by_post (cond t (other s) s)) ≡ (stands s && cond t (not (by_post s)) (by_post s))
  side_bus true None = refl
  side_bus true (Some bus_side) = refl
  side_bus true (Some Post) = refl
  side_bus false s = refl

  side_post : (t : Bool) (s : Option Side) → (stands (cond t (other s) s) && not (by_post (cond t (other s) s))) ≡ (stands s && not (cond t (not (by_post s)) (by_post s)))
  side_post true None = refl
  side_post true (Some bus_side) = refl
  side_post true (Some Post) = refl
  side_post false s = refl

  leads_at : (a c : ℕ) → leads_of (along x vs m) a c ≡ pointing m.buses (yard_of m).paired (flipped m.buses x vs (sides_of m)) a c
  leads_at a c =
      let B : ℕ = m.buses in
      let e : ℕ → ℕ → Bool = (yard_of m).paired in
      let s : Sides = flipped m.buses x vs (sides_of m) in
      let e' : ℕ → ℕ → Bool = (yard_of (along x vs m)).paired in
      let s' : Sides = sides_of (along x vs m) in
      elim (cases_lt a B) [
        | inl ab ↦ elim (cases_lt c B) [
          | inl cb ↦ low B e' s' a c ab cb ∙ sym (low B e s a c ab cb)
          | inr cb ↦ from_bus B e' s' a c ab cb ∙ side_bus (in_chain m.buses x vs a (c - m.buses)) (m.standing a (c - m.buses)) ∙ sym (from_bus B e s a c ab cb)
        ]
        | inr ab ↦ elim (cases_lt c B) [
          | inl cb ↦ from_post B e' s' a c ab cb ∙ side_post (in_chain m.buses x vs c (a - m.buses)) (m.standing c (a - m.buses)) ∙ sym (from_post B e s a c ab cb)
          | inr cb ↦ high B e' s' a c ab cb ∙ sym (high B e s a c ab cb)
        ]
      ]

  pub along_leads : leads_of (along x vs m) ≡ pointing m.buses (yard_of m).paired (flipped m.buses x vs (sides_of m))
  along_leads = fun_ext (λ a. fun_ext (λ c. leads_at a c))

  pub along_turned : Chain (leads_of m) x vs → leads_of (along x vs m) ≡ turned x vs (leads_of m)
  along_turned c = along_leads ∙ flip_turns m.buses (yard_of m).paired (sides_of m) x vs c

-- a search against the pointing is over the pairs
pub against_pairs : (m : Meaning) (q : Queue) (marks : List ℕ) → Searched (against m) (size m) q marks → OverPairs m q
against_pairs m q marks state = record {
  few = omega (arith, within (against m) (size m) q marks state, state.few);
  inside = state.inside;
  once = state.once;
  paired = λ i l. elim (state.found i l) [
    | inl e ↦ inl e
    | inr h ↦ let k = h.1 in inr (h.0, grind arith)
  ];
}

-- the way back of such a search is a chain to a start
pub trail_chain : (m : Meaning) (q : Queue) → OverPairs m q → ((i : ℕ) → i < len q → (from q i ≡ i) ⊎ ((from q i < i) × (leads_of m (node q i) (node q (from q i)) ≡ true)))
    → (i : ℕ) (vs : List ℕ) → Trail q i vs → i < len q
    → Chain (leads_of m) (node q i) vs × ((r : ℕ) × (r < len q) × (from q r ≡ r) × (end (node q i) vs ≡ node q r))
trail_chain m q over found i vs (at_start e) l = (tt, (i, l, e, refl))
trail_chain m q over found i vs (earlier {vs = ws} k t) l =
    let c = trail_chain m q over found (from q i) ws t (omega arith) in
    let none = trail_none m q over t i k l in
    ((link (found i l), none, c.0), c.1)
  where
    link : (from q i ≡ i) ⊎ ((from q i < i) × (leads_of m (node q i) (node q (from q i)) ≡ true)) → leads_of m (node q i) (node q (from q i)) ≡ true
    link (inl e) = absurd (omega arith)
    link (inr h) = h.1

-- a bus's load and number of pairs, as counted
module _ (m : Meaning) (b : ℕ) (lb : b < m.buses) where
  pub bus_load : load_of m b ≡ on_side m bus_side b
  bus_load = reading.bus_load m.buses m.posts (yard_of m).paired (sides_of m) b lb

  either : (s : Option Side) → bit (stands s && by_post s) + bit (stands s && not (by_post s)) ≡ bit (stands s)
  either None = refl
  either (Some bus_side) = refl
  either (Some Post) = refl

  pub bus_degree : degree (size m) (leads_of m) b ≡ pairs_of m b
  bus_degree =
      let f : ℕ → ℕ = λ n. bit (leads_of m b n) + bit (leads_of m n b) in
      let s = sum_split m.buses m.posts f in
      let z = sum_none m.buses f (λ n l. let p = low m.buses (yard_of m).paired (sides_of m) b n lb l in let q = low m.buses (yard_of m).paired (sides_of m) n b l lb in
      let p2 = ap bit p in let q2 = ap bit q in omega arith) in
      let c = sum_cong m.posts (λ p. f (m.buses + p)) (λ p. bit (stands (m.standing b p))) (λ p l.
      let e : (m.buses + p) - m.buses ≡ p = omega arith in
      let u = from_bus m.buses (yard_of m).paired (sides_of m) b (m.buses + p) lb (omega arith) ∙ ap (λ k. stands (m.standing b k) && by_post (m.standing b k)) e in
      let v = from_post m.buses (yard_of m).paired (sides_of m) (m.buses + p) b (omega arith) lb ∙ ap (λ k. stands (m.standing b k) && not (by_post (m.standing b k))) e in
      let u2 = ap bit u in let v2 = ap bit v in let w = either (m.standing b p) in omega arith) in
      omega arith

-- right buses are within their limits
pub right_within : (m : Meaning) (L : Limits) → BusesRight m L → BusesWithin m L
right_within m L right b lb = omega (arith, bus_load m b lb, right b lb)

-- so a node over its limit is a post
pub over_is_post : (m : Meaning) (L : Limits) → BusesRight m L → (a o : ℕ) → limit_at m.buses L a o < load_of m o → m.buses ≤ o
over_is_post m L right a o h = elim (cases_lt o m.buses) [
  | inr k ↦ k
  | inl k ↦ absurd (omega (arith, right_within m L right o k, at_bus (yard_of m) L a o k))
]

-- even sides have right buses
pub even_right : (m : Meaning) (L : Limits) → EvenSides m L → BusesRight m L
even_right m L even b lb =
    let e = even.bus b lb in
    let l = at_bus (yard_of m) L 0 b lb in
    omega (arith, bus_load m b lb, bus_degree m b lb)

-- with right buses and every level clear of posts under their limit, the sides are even
pub clear_even : (m : Meaning) (L : Limits) → BusesRight m L → ((c : ℕ) → c < 256 → Clear m L (under_at m L) c) → EvenSides m L
clear_even m L right clear = record {
  bus = λ b lb. let l = at_bus (yard_of m) L 0 b lb in omega (arith, bus_load m b lb, bus_degree m b lb, right b lb);
  post = λ a s vs la bs ls be le chain low_load high-load.
      let c = clear a la in
      let top = c.reach.over_in (end s vs) le high-load in
      let in-set = walked c.set_of c.reach.back s (end s vs) (chain_walk (leads_of m) s vs chain) top in
      both_ways (under_at m L a s) (c.unsought s ls in-set) (and_from (leb m.buses s) (ltb (load_of m s) (limit_at m.buses L a s)) (le-leb m.buses s bs) (lt-ltb (load_of m s) (limit_at m.buses L a s) low_load));
}
  where
    walked : (D : ℕ → Bool) → ((x y : ℕ) → leads_of m x y ≡ true → D y ≡ true → D x ≡ true) → (u o : ℕ) → Walk (leads_of m) u o → D o ≡ true → D u ≡ true
    walked D back u o here e = e
    walked D back u o (step {y = y} k w) e = back u y k (walked D back y o w e)

-- the posts under their limit, by what the posts carry
module _ (m : Meaning) (L : Limits) (loads : List ℕ) (bounded : Bounded m) (right : LoadsOf m loads) where
  pub under_is : (a n : ℕ) → n < size m → under loads L m.buses m.posts a n ≡ under_at m L a n
  under_is a n w = elim (cases_lt n m.buses) [
    | inl b ↦ let e : leb m.buses n ≡ false = lt-leb m.buses n b in
        ap (λ t. t && (ltb (n - m.buses) m.posts && (ltb (n - m.buses) 256 && ltb (get_or loads (n - m.buses) 0) (L.post a (n - m.buses))))) e
        ∙ sym (ap (λ t. t && ltb (load_of m n) (limit_at m.buses L a n)) e)
    | inr b ↦
        let p : ℕ = n - m.buses in
        let lp : n - m.buses < m.posts = omega arith in
        let e : m.buses + (n - m.buses) ≡ n = omega arith in
        let l : load_of m n ≡ get_or loads (n - m.buses) 0 = ap (load_of m) (sym e) ∙ reading.post_load m.buses m.posts (yard_of m).paired (sides_of m) (n - m.buses) lp ∙ sym (right (n - m.buses) lp) in
        let k : limit_at m.buses L a n ≡ L.post a (n - m.buses) = ap (limit_at m.buses L a) (sym e) ∙ at_post (yard_of m) L a (n - m.buses) in
        ap (λ t. leb m.buses n && (t && (ltb (n - m.buses) 256 && ltb (get_or loads (n - m.buses) 0) (L.post a (n - m.buses))))) (lt-ltb (n - m.buses) m.posts lp)
        ∙ ap (λ t. leb m.buses n && (t && ltb (get_or loads (n - m.buses) 0) (L.post a (n - m.buses)))) (lt-ltb (n - m.buses) 256 (omega (arith, bounded.few_posts)))
        ∙ ap₂ (λ u v. leb m.buses n && ltb u v) (sym l) (sym k)
  ]

-- a post's limit rises with the level
climbs_to : (L : Limits) → Rising L → (a c p : ℕ) → a ≤ c → c < 256 → L.post a p ≤ L.post c p
climbs_to L r a zero p h w = let e : a ≡ 0 = omega arith in let f = ap (λ z. L.post z p) e in omega arith
climbs_to L r a (suc c) p h w = elim (cases_eq a (suc c)) [
  | inl e ↦ let f = ap (λ z. L.post z p) e in omega arith
  | inr d ↦ omega (arith, climbs_to L r a c p (omega arith) (omega arith), r c p (omega arith))
]

pub under_upward : (loads : List ℕ) (L : Limits) (buses posts : ℕ) → Rising L → Upward (under loads L buses posts)
under_upward loads L buses posts rising a c n h lc e =
    let p = and_parts (leb buses n) (ltb (n - buses) posts && (ltb (n - buses) 256 && ltb (get_or loads (n - buses) 0) (L.post a (n - buses)))) e in
    let q = and_parts (ltb (n - buses) posts) (ltb (n - buses) 256 && ltb (get_or loads (n - buses) 0) (L.post a (n - buses))) p.1 in
    let r = and_parts (ltb (n - buses) 256) (ltb (get_or loads (n - buses) 0) (L.post a (n - buses))) q.1 in
    let low-limit = ltb-true (get_or loads (n - buses) 0) (L.post a (n - buses)) r.1 in
    let more = climbs_to L rising a c (n - buses) h lc in
    and_from (leb buses n) (ltb (n - buses) posts && (ltb (n - buses) 256 && ltb (get_or loads (n - buses) 0) (L.post c (n - buses)))) p.0
    (and_from (ltb (n - buses) posts) (ltb (n - buses) 256 && ltb (get_or loads (n - buses) 0) (L.post c (n - buses))) q.0
    (and_from (ltb (n - buses) 256) (ltb (get_or loads (n - buses) 0) (L.post c (n - buses))) r.0 (lt-ltb (get_or loads (n - buses) 0) (L.post c (n - buses)) (omega arith))))

-- what the search down the levels says of evenness
module _ (m : Meaning) (L : Limits) (loads : List ℕ) (bounded : Bounded m) (loads-right : LoadsOf m loads) (right : BusesRight m L) (q : Queue) (marks : List ℕ) where
  pub uneven_found : (a place : ℕ) → Descended m L (under loads L m.buses m.posts) 0 q marks (Some (a, place)) → Uneven m L q (Some place)
  uneven_found a place d =
      let f = d.finds a place refl in
      record {
        over = against_pairs m q marks d.state;
        found = d.state.found;
        finds = λ p h.
            let e : place ≡ p = some_is h in
            subst (λ z. (a : ℕ) × (a < 256) × (z < len q) × (under_at m L a (node q z) ≡ true) × ((i : ℕ) → i < len q → from q i ≡ i → over_at m L a (node q i) ≡ true)) e
            (a, f.1, f.2, sym (under_is m L loads bounded loads-right a (node q place) (d.state.inside place f.2)) ∙ f.3, f.4);
        misses = λ h. absurd (no_none h);
      }
    where
      some_is : {p : ℕ} → ◌≡◌ {A = Option ℕ} (Some place) (Some p) → place ≡ p
      some_is h = cc

      no_none : ◌≡◌ {A = Option ℕ} (Some place) None → ⊥
      no_none h = let z : ◌≡◌ {A = ℕ} 0 1 = cc in omega arith

  pub uneven_none : Descended m L (under loads L m.buses m.posts) 0 q marks None → Uneven m L q None
  uneven_none d = record {
    over = against_pairs m q marks d.state;
    found = d.state.found;
    finds = λ p h. absurd (no_some p h);
    misses = λ _. clear_even m L right (λ c l.
        let k = (d.misses refl).0 c (omega arith) l in
        record { set_of = k.set_of; reach = k.reach; unsought = λ n w e. sym (under_is m L loads bounded loads-right c n w) ∙ k.unsought n w e });
  }
    where
      no_some : (p : ℕ) → ◌≡◌ {A = Option ℕ} None (Some p) → ⊥
      no_some p h = let z : ◌≡◌ {A = ℕ} 0 1 = cc in omega arith

  pub uneven_by : (r : Option (ℕ × ℕ)) → Descended m L (under loads L m.buses m.posts) 0 q marks r → Uneven m L q (option_map (λ v. v.1) r)
  uneven_by None d = uneven_none d
  uneven_by (Some v) d = uneven_found v.0 v.1 d

-- one chain turned from a post under its limit to one over it
module _ (m n : Meaning) (L : Limits) (rising : Rising L) (bounded : Bounded m) (right : BusesRight m L) (q : Queue) (place : ℕ) (u : Uneven m L q (Some place)) (t : TurnedBack q place m n) where
  abbrev level : ℕ
  level = (u.finds place refl).0

  inside : place < len q
  inside = (u.finds place refl).2

  the_chain : Chain (leads_of m) (node q place) t.trail × ((r : ℕ) × (r < len q) × (from q r ≡ r) × (end (node q place) t.trail ≡ node q r))
  the_chain = trail_chain m q u.over u.found place t.trail t.is_trail inside

  last_in : end (node q place) t.trail < size m
  last_in = let c = the_chain.1 in let w = u.over.inside c.0 c.1 in let e = c.3 in omega arith

  last_over : limit_at m.buses L level (end (node q place) t.trail) < load_of m (end (node q place) t.trail)
  last_over =
      let c = the_chain.1 in
      let o = (u.finds place refl).4 c.0 c.1 c.2 in
      subst (λ z. limit_at m.buses L level z < load_of m z) (sym c.3) (ltb-true (limit_at m.buses L level (node q c.0)) (load_of m (node q c.0)) o)

  first_post : m.buses ≤ node q place
  first_post = leb-true m.buses (node q place) (and_parts (leb m.buses (node q place)) (ltb (load_of m (node q place)) (limit_at m.buses L level (node q place))) (u.finds place refl).3).0

  first_under : load_of m (node q place) < limit_at m.buses L level (node q place)
  first_under = ltb-true (load_of m (node q place)) (limit_at m.buses L level (node q place)) (and_parts (leb m.buses (node q place)) (ltb (load_of m (node q place)) (limit_at m.buses L level (node q place))) (u.finds place refl).3).1

  last_post : m.buses ≤ end (node q place) t.trail
  last_post = over_is_post m L right level (end (node q place) t.trail) last_over

  -- the sides were not even
  pub was_uneven : EvenSides m L → ⊥
  was_uneven even =
      even.post level (node q place) t.trail (u.finds place refl).1 first_post (u.over.inside place inside) last_post last_in the_chain.0 first_under last_over

  -- less is carried beyond the limits
  pub unevenness_falls : unevenness n L < unevenness m L
  unevenness_falls =
      let f = settling_ends_lem (yard_of m) L (sides_of m) rising (sized m bounded) level (node q place) t.trail (let w = (u.finds place refl).1 in omega arith) the_chain.0 (u.over.inside place inside) last_in first_under last_over in
      subst (λ k. unevenness k L < unevenness m L) (sym t.changes)
      (subst (λ g. sum 256 (λ a. over (size m) (load (size m) g) (limit_at m.buses L a)) < unevenness m L) (sym (along_leads m (node q place) t.trail)) f)

  pub turned_pairs : SamePairs m n
  turned_pairs = subst (SamePairs m) (sym t.changes) (along_pairs m (node q place) t.trail)

  -- the buses carry what they carried
  same_load : (b : ℕ) → b < m.buses → load_of (along (node q place) t.trail m) b ≡ load_of m b
  same_load b lb =
      let e = ap (λ g. load (size m) g b) (along_turned m (node q place) t.trail the_chain.0) in
      let c = chain_load (size m) (node q place) t.trail (leads_of m) (net_of (yard_of m) (sides_of m) (sized m bounded)) the_chain.0 b in
      let x : bit (eqb b (node q place)) ≡ 0 = ap bit (ne_eqb b (node q place) (λ i. let f = first_post in omega arith)) in
      let y : bit (eqb b (end (node q place) t.trail)) ≡ 0 = ap bit (ne_eqb b (end (node q place) t.trail) (λ i. let f = last_post in omega arith)) in
      omega arith

  same_pairs : (b : ℕ) → pairs_of (along (node q place) t.trail m) b ≡ pairs_of m b
  same_pairs b = sum_cong m.posts _ _ (λ p _. ap bit (along_paired m (node q place) t.trail b p))

  pub buses_stay : BusesRight n L
  buses_stay =
      subst (λ k. BusesRight k L) (sym t.changes)
      (λ b lb. sym (bus_load (along (node q place) t.trail m) b lb) ∙ same_load b lb ∙ bus_load m b lb ∙ right b lb ∙ ap (min (L.bus b)) (sym (same_pairs b)))

-- while chains are turned: the buses are right, only sides have changed, and none has if they were even
pub record Evening (m n : Meaning) (L : Limits) : Type 0 where
  pub pairs : SamePairs m n
  pub right : BusesRight n L
  pub same : EvenSides m L → n ≡ m

-- the buses made right first, and then all chains turned
pub settled_whole : (m n k j : Meaning) (L : Limits) → BusesSettled m n L → Evening n k L → ChainTurned k j L false → Settled m j L
settled_whole m n k j L s e c =
    let t = c.even refl in
    subst (λ z. Settled m z L) (sym t.1) (record {
      pairs = record {
        buses = e.pairs.buses ∙ s.pairs.buses;
        posts = e.pairs.posts ∙ s.pairs.posts;
        same = λ b p. e.pairs.same b p ∙ s.pairs.same b p;
      };
      even = t.0;
      same = λ even.
          let first = s.same (even_right m L even) in
          e.same (subst (λ z. EvenSides z L) (sym first) even) ∙ first;
    })

pub chain_turned : (m n : Meaning) (L : Limits) → Rising L → Bounded m → BusesRight m L → (q : Queue) (place : ℕ) → Uneven m L q (Some place) → TurnedBack q place m n → ChainTurned m n L true
chain_turned m n L rising bounded right q place u t = record {
  even = λ h. absurd (both_ways true h refl);
  nearer = λ _. (
    was_uneven m n L rising bounded right q place u t,
    buses_stay m n L rising bounded right q place u t,
    turned_pairs m n L rising bounded right q place u t,
    unevenness_falls m n L rising bounded right q place u t,
  );
}

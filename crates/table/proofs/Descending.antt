-- Going down the levels, step by step.
use Rattle.std.proofs.Common.{◌≡◌, ℕ, ◌+◌, ◌-◌, ◌<◌, ◌≤◌, Bool, true, false, ltb, List, Some, None, Option, sym, refl, ap, ◌∙◌, subst, inl, inr, arith}
use Rattle.std.proofs.lemmas.Bool.{cases_Bool, cases_eq, cases_lt, both_ways, ltb-true, lt-ltb}
use Rattle.blocks.specs.Limits.{Limits, Rising, limit_at}
use Rattle.blocks.specs.Networks.{Walk, Reach}
use Rattle.blocks.specs.Sides.{Sized, post_load}
use Rattle.blocks.proofs.Chains.{chain_walk}
use Rattle.blocks.proofs.Levels.{at_bus, at_post}
use Rattle.blocks.proofs.Queues.{chain_to_start}
use Rattle.blocks.proofs.Reading as reading
use Rattle.blocks.proofs.Yards.{levels, net_of}
use Rattle.stores.specs.Meaning.{Meaning, Bounded, stands}
use Rattle.table.specs.declared.queues.Queue.{Queue}
use Rattle.table.specs.Yards.{yard_of, sides_of, leads_of}
use Rattle.table.specs.Searches.{len, node, from, marked, Searched, Started, Grown, Sought}
use Rattle.table.specs.Levels.{against, size, load_of, over_at, BusesWithin, Upward, Clear, OverStarted, Descended}

-- what stands lies within the sizes
pub sized : (m : Meaning) → Bounded m → Sized (yard_of m)
sized m bounded b p h = (
  elim (cases_lt b m.buses) [ inl l ↦ l | inr l ↦ absurd (both_ways (stands (m.standing b p)) (ap stands (bounded.no_bus b p l)) h) ],
  elim (cases_lt p m.posts) [ inl l ↦ l | inr l ↦ absurd (both_ways (stands (m.standing b p)) (ap stands (bounded.no_post b p l)) h) ],
)

-- a post's load and limit, as the code has them
pub post_over : (m : Meaning) (L : Limits) (a p : ℕ) → p < m.posts → (l : ℕ) → l ≡ post_load (yard_of m) (sides_of m) p → over_at m L a (m.buses + p) ≡ ltb (L.post a p) l
post_over m L a p w l e =
    let f = reading.post_load m.buses m.posts (yard_of m).paired (sides_of m) p w in
    let h = at_post (yard_of m) L a p in
    let g : load_of m (m.buses + p) ≡ l = f ∙ sym e in
    ap (λ x. ltb x (load_of m (m.buses + p))) h ∙ ap (ltb (L.post a p)) g

-- the first k posts have been looked at
pub record OverStarting (m : Meaning) (L : Limits) (a : ℕ) (wanted : ℕ → Bool) (q r : Queue) (marks : List ℕ) (k : ℕ) : Type 0 where
  pub state : Searched (against m) (size m) r marks
  pub longer : len q ≤ len r
  pub next : r.next ≡ q.next
  pub same_node : (i : ℕ) → i < len q → node r i ≡ node q i
  pub same_from : (i : ℕ) → i < len q → from r i ≡ from q i
  pub is_start : (i : ℕ) → len q ≤ i → i < len r → (from r i ≡ i) × (over_at m L a (node r i) ≡ true)
  pub there : (p : ℕ) → p < k → over_at m L a (m.buses + p) ≡ true → marked marks (m.buses + p) ≡ true
  pub unwanted : (i : ℕ) → len q ≤ i → i < len r → wanted (node r i) ≡ false

module _ (m : Meaning) (L : Limits) (a : ℕ) (wanted : ℕ → Bool) (q : Queue) where
  pub over_none : (marks : List ℕ) → Searched (against m) (size m) q marks → OverStarting m L a wanted q q marks 0
  over_none marks state = record {
    state = state;
    longer = omega arith;
    next = refl;
    same_node = λ i _. refl;
    same_from = λ i _. refl;
    is_start = λ i h l. absurd (omega arith);
    there = λ p l. absurd (omega arith);
    unwanted = λ i h l. absurd (omega arith);
  }

  module _ (r : Queue) (marks : List ℕ) (k : ℕ) (o : OverStarting m L a wanted q r marks k) where
    pub over_skip : (over_at m L a (m.buses + k) ≡ true → marked marks (m.buses + k) ≡ true) → OverStarting m L a wanted q r marks (k + 1)
    over_skip h = record {
      state = o.state;
      longer = o.longer;
      next = o.next;
      same_node = o.same_node;
      same_from = o.same_from;
      is_start = o.is_start;
      there = λ p l e. elim (cases_eq p k) [
        | inl i ↦ ap (λ z. marked marks (m.buses + z)) i ∙ h (ap (λ z. over_at m L a (m.buses + z)) (sym i) ∙ e)
        | inr d ↦ o.there p (omega arith) e
      ];
      unwanted = o.unwanted;
    }

    module _ (s : Queue) (marks' : List ℕ) (b : Started (against m) (size m) r s marks marks' (m.buses + k)) (over : over_at m L a (m.buses + k) ≡ true) where
      new_start : (i : ℕ) → len q ≤ i → i < len s → (from s i ≡ i) × (over_at m L a (node s i) ≡ true)
      new_start i h l = elim (cases_lt i (len r)) [
        | inl j ↦ let p = o.is_start i h j in (b.same_from i j ∙ p.0, ap (over_at m L a) (b.same_node i j) ∙ p.1)
        | inr j ↦ let p = b.is_start i j l in (p.1, ap (over_at m L a) p.0 ∙ over)
      ]

      pub over_more : wanted (m.buses + k) ≡ false → OverStarting m L a wanted q s marks' (k + 1)
      over_more unw = record {
        state = b.state;
        longer = omega (arith, o.longer, b.longer);
        next = b.next ∙ o.next;
        same_node = λ i l. b.same_node i (omega (arith, o.longer)) ∙ o.same_node i l;
        same_from = λ i l. b.same_from i (omega (arith, o.longer)) ∙ o.same_from i l;
        is_start = new_start;
        there = λ p l e. elim (cases_eq p k) [
          | inl i ↦ ap (λ z. marked marks' (m.buses + z)) i ∙ b.there
          | inr d ↦ b.still (m.buses + p) (o.there p (omega arith) e)
        ];
        unwanted = λ i h l. elim (cases_lt i (len r)) [
          | inl j ↦ ap wanted (b.same_node i j) ∙ o.unwanted i h j
          | inr j ↦ ap wanted (b.is_start i j l).0 ∙ unw
        ];
      }

      pub over_found : marked marks (m.buses + k) ≡ false → m.buses + k < size m → wanted (m.buses + k) ≡ true → (place : ℕ) → place ≡ len s - 1 → OverStarted m L a wanted q s marks' (Some place)
      over_found fresh inside w place e =
          let grew : len r < (len s) = elim (cases_lt (len r) (len s)) [ inl l ↦ l | inr l ↦ absurd (not_grown l) ] in
          record {
            state = b.state;
            longer = omega (arith, o.longer, b.longer);
            next = b.next ∙ o.next;
            same_node = λ i l. b.same_node i (omega (arith, o.longer)) ∙ o.same_node i l;
            same_from = λ i l. b.same_from i (omega (arith, o.longer)) ∙ o.same_from i l;
            is_start = new_start;
            finds = λ p h.
                let same : p ≡ place = sym (some_is h) in
                (omega (arith, o.longer), omega arith, ap wanted (ap (node s) same ∙ (b.is_start place (omega arith) (omega arith)).0) ∙ w);
            misses = λ h. absurd (no_none h);
          }
        where
          some_is : {p : ℕ} → ◌≡◌ {A = Option ℕ} (Some place) (Some p) → place ≡ p
          some_is h = cc

          no_none : ◌≡◌ {A = Option ℕ} (Some place) None → ⊥
          no_none h = let z : ◌≡◌ {A = ℕ} 0 1 = cc in omega arith

          -- it is marked now and was not before, so it has been found since
          not_grown : len s ≤ len r → ⊥
          not_grown l =
              let f = b.state.found_marked (m.buses + k) inside b.there in
              let lf = f.1 in
              both_ways (marked marks (m.buses + k)) fresh (ap (marked marks) (sym f.2 ∙ b.same_node f.0 (omega arith)) ∙ o.state.marks_found f.0 (omega arith))

    pub over_end : m.posts ≤ k → OverStarted m L a wanted q r marks None
    over_end all = record {
      state = o.state;
      longer = o.longer;
      next = o.next;
      same_node = o.same_node;
      same_from = o.same_from;
      is_start = o.is_start;
      finds = λ p h. absurd (no_some p h);
      misses = λ _. ((λ p l. o.there p (omega arith)), o.unwanted);
    }
      where
        no_some : (p : ℕ) → ◌≡◌ {A = Option ℕ} None (Some p) → ⊥
        no_some p h = let z : ◌≡◌ {A = ℕ} 0 1 = cc in omega arith

-- what holds of the level and the place found holds of those answered
found_at : (a b place p : ℕ) → ◌≡◌ {A = Option (ℕ × ℕ)} (Some (a, place)) (Some (b, p)) → (F : ℕ → ℕ → Type 0) → F a place → F b p
found_at a b place p h F f =
    let both : ◌≡◌ {A = ℕ × ℕ} (a, place) (b, p) = cc in
    subst (λ (z : ℕ × ℕ). F z.0 z.1) both f

-- The levels from `level` on have been gone through: all that was found is followed, the starts are over their limit at `level`, and
-- nothing found is sought there.
pub record Descending (m : Meaning) (L : Limits) (sought : ℕ → ℕ → Bool) (level : ℕ) (q : Queue) (marks : List ℕ) : Type 0 where
  pub bound : level ≤ 256
  pub state : Searched (against m) (size m) q marks
  pub all_followed : q.next ≡ len q
  pub starts : (i : ℕ) → i < len q → from q i ≡ i → (level < 256) × (over_at m L level (node q i) ≡ true)
  pub unsought : (i : ℕ) → i < len q → (level < 256) × (sought level (node q i) ≡ false)
  pub clear : (c : ℕ) → level ≤ c → c < 256 → Clear m L sought c
  pub reach : level < 256 → Reach (size m) (leads_of m) (limit_at m.buses L level) (marked marks)

module _ (m : Meaning) (L : Limits) (sought : ℕ → ℕ → Bool) where
  pub descending_none : (q : Queue) (marks : List ℕ) → Searched (against m) (size m) q marks → len q ≡ 0 → q.next ≡ 0 → Descending m L sought 256 q marks
  descending_none q marks state el ex = record {
    bound = omega arith;
    state = state;
    all_followed = ex ∙ sym el;
    starts = λ i l. absurd (omega arith);
    unsought = λ i l. absurd (omega arith);
    clear = λ c h l. absurd (omega arith);
    reach = λ h. absurd (omega arith);
  }

  module _ (rising : Rising L) (bounded : Bounded m) (buses : BusesWithin m L) (up : Upward sought) (a : ℕ) (q : Queue) (marks : List ℕ) (d : Descending m L sought (a + 1) q marks) where
    la : a < 256
    la = omega (arith, d.bound)

    -- over at the level above is over here
    over_too : (n : ℕ) → a + 1 < 256 → over_at m L (a + 1) n ≡ true → over_at m L a n ≡ true
    over_too n h e =
        let r = (levels (yard_of m) L rising).rising a (a + 1) n (omega arith) h in
        lt-ltb (limit_at m.buses L a n) (load_of m n) (omega (arith, ltb-true (limit_at m.buses L (a + 1) n) (load_of m n) e))

    unsought_too : (n : ℕ) → a + 1 < 256 → sought (a + 1) n ≡ false → sought a n ≡ false
    unsought_too n h e = elim (cases_Bool (sought a n)) [ inr f ↦ f | inl t ↦ absurd (both_ways (sought (a + 1) n) e (up a (a + 1) n (omega arith) h t)) ]

    module _ (r : Queue) (marks' : List ℕ) (answer : Option ℕ) (o : OverStarted m L a (sought a) q r marks' answer) where
      -- every start, old or new, is over its limit here
      starts_over : (i : ℕ) → i < len r → from r i ≡ i → over_at m L a (node r i) ≡ true
      starts_over i l e = elim (cases_lt i (len q)) [
        | inl h ↦ let s = d.starts i h (sym (o.same_from i h) ∙ e) in ap (over_at m L a) (o.same_node i h) ∙ over_too (node q i) s.0 s.1
        | inr h ↦ (o.is_start i h l).1
      ]

      clear_above : (c : ℕ) → a < c → c < 256 → Clear m L sought c
      clear_above c h l = d.clear c (omega arith) l

      pub descended_start : (place : ℕ) → answer ≡ Some place → (low : ℕ) → low ≤ a → Descended m L sought low r marks' (Some (a, place))
      descended_start place e low ll =
          let f = o.finds place e in
          record {
            state = o.state;
            finds = λ b p h. found_at a b place p h (λ x y. (low ≤ x) × (x < 256) × (y < len r) × (sought x (node r y) ≡ true) × ((i : ℕ) → i < len r → from r i ≡ i → over_at m L x (node r i) ≡ true) × ((c : ℕ) → x < c → c < 256 → Clear m L sought c))
                (ll, la, f.1, f.2, starts_over, clear_above);
            misses = λ h. absurd (no_none h);
          }
        where
          no_none : ◌≡◌ {A = Option (ℕ × ℕ)} (Some (a, place)) None → ⊥
          no_none h = let z : ◌≡◌ {A = ℕ} 0 1 = cc in omega arith

      module _ (none : answer ≡ None) (s : Queue) (marks'' : List ℕ) where
        unsought_start : (i : ℕ) → i < len r → sought a (node r i) ≡ false
        unsought_start i l = elim (cases_lt i (len q)) [
          | inl h ↦ let u = d.unsought i h in ap (sought a) (o.same_node i h) ∙ unsought_too (node q i) u.0 u.1
          | inr h ↦ (o.misses none).1 i h l
        ]

        starts_after : Grown r s → (i : ℕ) → i < len s → from s i ≡ i → over_at m L a (node s i) ≡ true
        starts_after g i l e = elim (cases_lt i (len r)) [
          | inl h ↦ ap (over_at m L a) (g.same_node i h) ∙ starts_over i h (sym (g.same_from i h) ∙ e)
          | inr h ↦ absurd (omega (arith, g.no_start i h l))
        ]

        pub descended_search : (place : ℕ) → Sought (against m) (size m) (sought a) r s marks'' (Some place) → (low : ℕ) → low ≤ a → Descended m L sought low s marks'' (Some (a, place))
        descended_search place b low ll =
            let f = b.finds place refl in
            record {
              state = b.state;
              finds = λ x p h. found_at a x place p h (λ x y. (low ≤ x) × (x < 256) × (y < len s) × (sought x (node s y) ≡ true) × ((i : ℕ) → i < len s → from s i ≡ i → over_at m L x (node s i) ≡ true) × ((c : ℕ) → x < c → c < 256 → Clear m L sought c))
                  (ll, la, f.1, f.2, starts_after b.grown, clear_above);
              misses = λ h. absurd (no_none h);
            }
          where
            no_none : ◌≡◌ {A = Option (ℕ × ℕ)} (Some (a, place)) None → ⊥
            no_none h = let z : ◌≡◌ {A = ℕ} 0 1 = cc in omega arith

        module _ (b : Sought (against m) (size m) (sought a) r s marks'' None) where
          unsought_now : (i : ℕ) → i < len s → sought a (node s i) ≡ false
          unsought_now i l = elim (cases_lt i (len r)) [
            | inl h ↦ ap (sought a) (b.grown.same_node i h) ∙ unsought_start i h
            | inr h ↦ (b.misses refl).1 i h l
          ]

          -- what was marked before the search is marked after it
          still : (n : ℕ) → n < size m → marked marks' n ≡ true → marked marks'' n ≡ true
          still n l e =
              let f = o.state.found_marked n l e in
              let lf = f.1 in
              sym (ap (marked marks'') (b.grown.same_node f.0 lf ∙ f.2)) ∙ b.state.marks_found f.0 (omega (arith, b.grown.longer))

          reach_now : Reach (size m) (leads_of m) (limit_at m.buses L a) (marked marks'')
          reach_now = record {
            over_in = λ y l h. elim (cases_lt y m.buses) [
              | inl k ↦ absurd (let w = buses y k in let e = at_bus (yard_of m) L a y k in omega arith)
              | inr k ↦
                  let e : m.buses + (y - m.buses) ≡ y = omega arith in
                  let t = (o.misses none).0 (y - m.buses) (omega arith) (ap (over_at m L a) e ∙ lt-ltb (limit_at m.buses L a y) (load_of m y) h) in
                  still y l (ap (marked marks') (sym e) ∙ t)
            ];
            back = λ x y k e.
                let w = (net_of (yard_of m) (sides_of m) (sized m bounded)).within x y k in
                let f = b.state.found_marked y w.1 e in
                let lf = f.1 in
                b.state.closed f.0 x (omega (arith, (b.misses refl).0)) w.0 (ap (λ z. leads_of m x z) f.2 ∙ k);
            reaches = λ x l e.
                let f = b.state.found_marked x l e in
                let c = chain_to_start (leads_of m) (len s) (node s) (from s) (record { once = b.state.once; links = b.state.found }) f.0 f.1 in
                let lf = f.1 in
                let lr : c.1 < (len s) = omega (arith, c.3) in
                let o = starts_after b.grown c.1 lr c.4 in (
                  node s c.1,
                  b.state.inside c.1 lr,
                  ltb-true (limit_at m.buses L a (node s c.1)) (load_of m (node s c.1)) o,
                  subst (λ z. Walk (leads_of m) z (node s c.1)) f.2 (subst (λ z. Walk (leads_of m) (node s f.0) z) c.5 (chain_walk (leads_of m) (node s f.0) c.0 c.2)),
                );
          }

          pub descending_more : Descending m L sought a s marks''
          descending_more = record {
            bound = omega (arith, d.bound);
            state = b.state;
            all_followed = (b.misses refl).0;
            starts = λ i l e. (la, starts_after b.grown i l e);
            unsought = λ i l. (la, unsought_now i l);
            clear = λ c h l. elim (cases_eq c a) [
              | inl e ↦ subst (Clear m L sought) (sym e) (record {
                set_of = marked marks'';
                reach = reach_now;
                unsought = λ n ln e. let f = b.state.found_marked n ln e in ap (sought a) (sym f.2) ∙ unsought_now f.0 f.1;
              })
              | inr e ↦ clear_above c (omega arith) l
            ];
            reach = λ _. reach_now;
          }

  pub descended_end : (level low : ℕ) (q : Queue) (marks : List ℕ) → Descending m L sought level q marks → level ≡ low → Descended m L sought low q marks None
  descended_end level low q marks d e = record {
    state = d.state;
    finds = λ a p h. absurd (no_some a p h);
    misses = λ _. ((λ c h l. d.clear c (omega arith) l), λ h. subst (λ z. Reach (size m) (leads_of m) (limit_at m.buses L z) (marked marks)) e (d.reach (omega arith)));
  }
    where
      no_some : (a p : ℕ) → ◌≡◌ {A = Option (ℕ × ℕ)} None (Some (a, p)) → ⊥
      no_some a p h = let z : ◌≡◌ {A = ℕ} 0 1 = cc in omega arith

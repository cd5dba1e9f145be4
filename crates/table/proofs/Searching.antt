-- One step of a search after the other.
use Rattle.std.proofs.Common.{◌≡◌, ℕ, zero, suc, ◌+◌, ◌<◌, ◌≤◌, Bool, true, false, ltb, ◌⊎◌, List, [], ◌∷◌, ◌++◌, length, get_or, set, replicate, Some, None, Ok, Err, Option, Result, sym, refl, ap, ◌∙◌, subst, inl, inr, arith, length-set, get_or-set_other, get_or-set_same}
use lib.ListN.{length-replicate}
use Rattle.std.proofs.Math.Seq.{get_or-append_seam}
use Rattle.std.proofs.lemmas.List.{length-append}
use Rattle.std.proofs.lemmas.Grind.{not_there}
use Rattle.std.proofs.Math.Logic.{∥∥₁_elim}
use Rattle.std.proofs.Props.{props}
use Rattle.std.proofs.lemmas.Bool.{cases_eq, cases_lt, both_ways, lt-ltb}
use Rattle.blocks.specs.Sums.{sum, bit}
use Rattle.blocks.specs.Networks.{Leads, Walk}
use Rattle.blocks.proofs.Sums.{sum_one, sum_bound, sum_lt, sum_none}
use Rattle.blocks.proofs.Chains.{chain_walk}
use Rattle.blocks.proofs.Queues.{chain_from_start}
use Rattle.table.specs.declared.faults.TableFault.{TableFault}
use Rattle.table.specs.declared.faults.TableFault.TheVariants.{Bytes, Node}
use Rattle.table.specs.declared.queues.Found.{Found}
use Rattle.table.specs.declared.queues.Queue.{Queue}
use Rattle.table.specs.Searches.{len, node, from, marked, Searched, Pushed, Grown, Started, Followed, Sought, AllNodes, FirstStray, AllStarted, ChainFound, NothingFound, Reached}

bit_one : (t : Bool) → bit t ≤ 1
bit_one t = grind arith

ones : (n : ℕ) → sum n (λ _. 1) ≡ n
unfolding sum
ones zero = refl
ones (suc n) = omega (arith, ones n)

pub is_unmarked : (marks : List ℕ) (n : ℕ) → get_or marks n 0 ≡ 0 → marked marks n ≡ false
is_unmarked marks n e = ap (ltb 0) e

pub is_marked : (marks : List ℕ) (n : ℕ) → (get_or marks n 0 ≡ 0 → ⊥) → marked marks n ≡ true
is_marked marks n d = elim (cases_eq (get_or marks n 0) 0) [ inl e ↦ absurd (d e) | inr _ ↦ lt-ltb 0 (get_or marks n 0) (omega arith) ]

abbrev nowhere : Found
nowhere = record { node = 0; from = 0 }

get_or-append_other : (xs : List Found) (x d : Found) (i : ℕ) → (i ≡ length xs → ⊥) → get_or (xs ++ x ∷ []) i d ≡ get_or xs i d
get_or-append_other [] x d zero n = absurd (n refl)
get_or-append_other [] x d (suc i) n = refl
get_or-append_other (y ∷ ys) x d zero n = refl
get_or-append_other (y ∷ ys) x d (suc i) n = get_or-append_other ys x d i (λ e. n (ap suc e))

pub pushed_len : {q r : Queue} {y f : ℕ} → Pushed q r y f → len r ≡ len q + 1
pushed_len {q} pushed = ap length pushed.found ∙ length-append q.found.items _

-- the place of a node among the first k that are found, or it is none of them
place_of : (q : Queue) (n k : ℕ) → ((i : ℕ) × (i < k) × (node q i ≡ n)) ⊎ ((i : ℕ) → i < k → node q i ≡ n → ⊥)
place_of q n zero = inr (λ i l e. absurd (omega arith))
place_of q n (suc k) = elim (cases_eq (node q k) n) [
  | inl e ↦ inl (k, omega arith, e)
  | inr d ↦ elim (place_of q n k) [
    | inl h ↦ let l = h.1 in inl (h.0, omega arith, h.2)
    | inr h ↦ inr (λ i l e. elim (cases_eq i k) [ inl s ↦ d (sym (ap (node q) s) ∙ e) | inr t ↦ h i (omega arith) e ])
  ]
]

-- what a search keeps, out of its ghost field
pub searched_of : {leads : Leads} {N : ℕ} {q : Queue} {marks : List ℕ} → ∥ Searched leads N q marks ∥₁ → Searched leads N q marks
searched_of {leads} {N} {q} {marks} t = record {
  long = ∥∥₁_elim t (hlevel props) (λ s. s.long);
  few = ∥∥₁_elim t (hlevel props) (λ s. s.few);
  counted = ∥∥₁_elim t (hlevel props) (λ s. s.counted);
  followed = ∥∥₁_elim t (hlevel props) (λ s. s.followed);
  inside = ∥∥₁_elim t (hlevel props) (λ s. s.inside);
  once = ∥∥₁_elim t (hlevel props) (λ s. s.once);
  found = λ i l. elim (cases_eq (from q i) i) [
    | inl e ↦ inl e
    | inr d ↦ inr (∥∥₁_elim t (hlevel props) (λ s. elim (s.found i l) [ inl e ↦ absurd (d e) | inr h ↦ h ]))
  ];
  marks_found = ∥∥₁_elim t (hlevel props) (λ s. s.marks_found);
  found_marked = λ n l m. elim (place_of q n (len q)) [ inl h ↦ h | inr h ↦ absurd (not_there t (λ s. let o = s.found_marked n l m in h o.0 o.1 o.2)) ];
  closed = ∥∥₁_elim t (hlevel props) (λ s. s.closed);
}

module _ (leads : Leads) (N : ℕ) (q : Queue) (marks : List ℕ) (state : Searched leads N q marks) where
  -- where a node is not marked there is room for it
  pub space : (y : ℕ) → y < N → marked marks y ≡ false → len q < N
  space y w fresh =
      let s = sum_lt N (λ n. bit (marked marks n)) (λ _. 1) (λ n _. bit_one (marked marks n)) y w (let e = ap bit fresh in omega arith) in
      omega (arith, state.counted, ones N)

  pub within : len q ≤ N
  within = omega (arith, state.counted, sum_bound N (λ n. bit (marked marks n)) (λ n _. bit_one (marked marks n)))

module _ (leads : Leads) (N : ℕ) (q r : Queue) (marks : List ℕ) (y f : ℕ) (state : Searched leads N q marks) (ly : y < N) (fresh : marked marks y ≡ false) (pushed : Pushed q r y f)
    (origin : (f ≡ len q) ⊎ ((f < len q) × (leads (node q f) y ≡ true))) where
  room : len q < N
  room = space leads N q marks state y ly fresh

  old_node : (i : ℕ) → (i ≡ len q → ⊥) → node r i ≡ node q i
  old_node i d = ap (λ l. (get_or l i nowhere).node) pushed.found ∙ ap (λ k. k.node) (get_or-append_other q.found.items _ nowhere i d)

  new_node : node r (len q) ≡ y
  new_node = ap (λ l. (get_or l (len q) nowhere).node) pushed.found ∙ ap (λ k. k.node) (get_or-append_seam q.found.items _ [] nowhere)

  old_from : (i : ℕ) → (i ≡ len q → ⊥) → from r i ≡ from q i
  old_from i d = ap (λ l. (get_or l i nowhere).from) pushed.found ∙ ap (λ k. k.from) (get_or-append_other q.found.items _ nowhere i d)

  new_from : from r (len q) ≡ f
  new_from = ap (λ l. (get_or l (len q) nowhere).from) pushed.found ∙ ap (λ k. k.from) (get_or-append_seam q.found.items _ [] nowhere)

  old_mark : (n : ℕ) → (n ≡ y → ⊥) → marked (set marks y 1) n ≡ marked marks n
  old_mark n d = ap (ltb 0) (get_or-set_other marks y n 1 0 d)

  new_mark : marked (set marks y 1) y ≡ true
  new_mark = ap (ltb 0) (get_or-set_same marks y 1 0 (omega (arith, state.long)))

  still_marked : (n : ℕ) → marked marks n ≡ true → marked (set marks y 1) n ≡ true
  still_marked n m = elim (cases_eq n y) [ inl e ↦ ap (marked (set marks y 1)) e ∙ new_mark | inr d ↦ old_mark n d ∙ m ]

  -- a node found earlier is another
  other : (i : ℕ) → i < len q → node q i ≡ y → ⊥
  other i l e = both_ways (marked marks y) fresh (sym (ap (marked marks) e) ∙ state.marks_found i l)

  pub pushed_state : Searched leads N r (set marks y 1)
  pushed_state = record {
    long = omega (arith, length-set marks y 1, state.long);
    few = state.few;
    counted =
        let s = sum_one N (λ n. bit (marked (set marks y 1) n)) (λ n. bit (marked marks n)) y ly (λ n _ d. ap bit (old_mark n d)) in
        omega (arith, ap bit new_mark, ap bit fresh, state.counted, pushed_len pushed);
    followed = omega (arith, pushed.next, pushed_len pushed, state.followed);
    inside = λ i l. elim (cases_eq i (len q)) [
      | inl e ↦ let a = ap (node r) e in omega (arith, new_node)
      | inr d ↦ omega (arith, old_node i d, state.inside i (omega (arith, pushed_len pushed)))
    ];
    once = λ i j li lj e. elim (cases_eq i (len q)) [
      | inl p ↦ elim (cases_eq j (len q)) [
        | inl t ↦ p ∙ sym t
        | inr d ↦ absurd (other j (omega (arith, pushed_len pushed)) (sym (old_node j d) ∙ sym e ∙ ap (node r) p ∙ new_node))
      ]
      | inr c ↦ elim (cases_eq j (len q)) [
        | inl t ↦ absurd (other i (omega (arith, pushed_len pushed)) (sym (old_node i c) ∙ e ∙ ap (node r) t ∙ new_node))
        | inr d ↦ state.once i j (omega (arith, pushed_len pushed)) (omega (arith, pushed_len pushed)) (sym (old_node i c) ∙ e ∙ old_node j d)
      ]
    ];
    found = λ i l. elim (cases_eq i (len q)) [
      | inl e ↦ subst (λ k. (from r k ≡ k) ⊎ ((from r k < k) × (leads (node r (from r k)) (node r k) ≡ true))) (sym e) (new_found origin)
      | inr d ↦ old_found i d (omega (arith, pushed_len pushed)) (state.found i (omega (arith, pushed_len pushed)))
    ];
    marks_found = λ i l. elim (cases_eq i (len q)) [
      | inl e ↦ ap (marked (set marks y 1)) (ap (node r) e ∙ new_node) ∙ new_mark
      | inr d ↦ ap (marked (set marks y 1)) (old_node i d) ∙ still_marked (node q i) (state.marks_found i (omega (arith, pushed_len pushed)))
    ];
    found_marked = λ n l m. elim (cases_eq n y) [
      | inl e ↦ (len q, omega (arith, pushed_len pushed), new_node ∙ sym e)
      | inr d ↦
          let o = state.found_marked n l (sym (old_mark n d) ∙ m) in
          let lo = o.1 in
          (o.0, omega (arith, pushed_len pushed), old_node o.0 (λ e. omega arith) ∙ o.2)
    ];
    closed = λ i z li lz k.
        let l : i < q.next = omega (arith, pushed.next) in
        let same = old_node i (λ e. omega (arith, state.followed)) in
        still_marked z (state.closed i z l lz (ap (λ n. leads n z) (sym same) ∙ k));
  }
    where
      new_found : (f ≡ len q) ⊎ ((f < len q) × (leads (node q f) y ≡ true))
          → (from r (len q) ≡ len q) ⊎ ((from r (len q) < len q) × (leads (node r (from r (len q))) (node r (len q)) ≡ true))
      new_found (inl e) = inl (new_from ∙ e)
      new_found (inr h) =
          let l = h.0 in
          inr (omega (arith, new_from), ap (λ k. leads (node r k) (node r (len q))) new_from ∙ ap (leads (node r f)) new_node ∙ ap (λ n. leads n y) (old_node f (λ e. omega arith)) ∙ h.1)

      old_found : (i : ℕ) → (i ≡ len q → ⊥) → i < len q → (from q i ≡ i) ⊎ ((from q i < i) × (leads (node q (from q i)) (node q i) ≡ true))
          → (from r i ≡ i) ⊎ ((from r i < i) × (leads (node r (from r i)) (node r i) ≡ true))
      old_found i d li (inl e) = inl (old_from i d ∙ e)
      old_found i d li (inr h) =
          let l = h.0 in
          inr (omega (arith, old_from i d), ap (λ k. leads (node r k) (node r i)) (old_from i d) ∙ ap (leads (node r (from q i))) (old_node i d) ∙ ap (λ n. leads n (node q i)) (old_node (from q i) (λ e. omega arith)) ∙ h.1)

  -- of what was there nothing changes
  pub pushed_keeps : (i : ℕ) → i < len q → (node r i ≡ node q i) × (from r i ≡ from q i)
  pushed_keeps i l = (old_node i (λ e. omega arith), old_from i (λ e. omega arith))

  pub pushed_new : (node r (len q) ≡ y) × (from r (len q) ≡ f)
  pushed_new = (new_node, new_from)

-- while the leads of the node at q's `next` are followed: those to the nodes below `to` are marked
pub record Following (leads : Leads) (N : ℕ) (wanted : ℕ → Bool) (q r : Queue) (marks : List ℕ) (to : ℕ) : Type 0 where
  pub state : Searched leads N r marks
  pub grown : Grown q r
  pub next : r.next ≡ q.next
  pub unwanted : (i : ℕ) → len q ≤ i → i < len r → wanted (node r i) ≡ false
  pub so_far : (y : ℕ) → y < to → leads (node q q.next) y ≡ true → marked marks y ≡ true

pub grown_none : (q : Queue) → Grown q q
grown_none q = record { longer = omega arith; same_node = λ i _. refl; same_from = λ i _. refl; no_start = λ i h l. absurd (omega arith) }

pub following_none : (leads : Leads) (N : ℕ) (wanted : ℕ → Bool) (q : Queue) (marks : List ℕ) → Searched leads N q marks → Following leads N wanted q q marks 0
following_none leads N wanted q marks state = record {
  state = state;
  grown = grown_none q;
  next = refl;
  unwanted = λ i h l. absurd (omega arith);
  so_far = λ y h. absurd (omega arith);
}

module _ (leads : Leads) (N : ℕ) (wanted : ℕ → Bool) (q r : Queue) (marks : List ℕ) (to : ℕ) (f : Following leads N wanted q r marks to) where
  -- a node that is marked, or not led to
  pub following_skip : (leads (node q q.next) to ≡ true → marked marks to ≡ true) → Following leads N wanted q r marks (to + 1)
  following_skip h = record {
    state = f.state;
    grown = f.grown;
    next = f.next;
    unwanted = f.unwanted;
    so_far = λ y l k. elim (cases_eq y to) [
      | inl e ↦ ap (marked marks) e ∙ h (ap (leads (node q q.next)) (sym e) ∙ k)
      | inr d ↦ f.so_far y (omega arith) k
    ];
  }

  module _ (more : q.next < len q) (lt : to < N) (fresh : marked marks to ≡ false) (led : leads (node q q.next) to ≡ true) (s : Queue) (pushed : Pushed r s to q.next) where
    at_next : node r q.next ≡ node q q.next
    at_next = f.grown.same_node q.next more

    origin : (q.next ≡ len r) ⊎ ((q.next < len r) × (leads (node r q.next) to ≡ true))
    origin = inr (omega (arith, f.grown.longer), ap (λ n. leads n to) at_next ∙ led)

    new_state : Searched leads N s (set marks to 1)
    new_state = pushed_state leads N r s marks to q.next f.state lt fresh pushed origin

    new_grown : Grown q s
    new_grown =
        let keep = pushed_keeps leads N r s marks to q.next f.state lt fresh pushed origin in
        let new = pushed_new leads N r s marks to q.next f.state lt fresh pushed origin in
        record {
          longer = omega (arith, pushed_len pushed, f.grown.longer);
          same_node = λ i l. (keep i (omega (arith, f.grown.longer))).0 ∙ f.grown.same_node i l;
          same_from = λ i l. (keep i (omega (arith, f.grown.longer))).1 ∙ f.grown.same_from i l;
          no_start = λ i h l. elim (cases_eq i (len r)) [
            | inl e ↦ let a = ap (from s) e in omega (arith, new.1, f.grown.longer)
            | inr d ↦ omega (arith, (keep i (omega (arith, pushed_len pushed))).1, f.grown.no_start i h (omega (arith, pushed_len pushed)))
          ];
        }

    pub following_more : wanted to ≡ false → Following leads N wanted q s (set marks to 1) (to + 1)
    following_more unw =
        let keep = pushed_keeps leads N r s marks to q.next f.state lt fresh pushed origin in
        let new = pushed_new leads N r s marks to q.next f.state lt fresh pushed origin in
        record {
          state = new_state;
          grown = new_grown;
          next = pushed.next ∙ f.next;
          unwanted = λ i h l. elim (cases_eq i (len r)) [
            | inl e ↦ ap wanted (ap (node s) e ∙ new.0) ∙ unw
            | inr d ↦ ap wanted (keep i (omega (arith, pushed_len pushed))).0 ∙ f.unwanted i h (omega (arith, pushed_len pushed))
          ];
          so_far = λ y l k. elim (cases_eq y to) [
            | inl e ↦ ap (marked (set marks to 1)) e ∙ new_mark_at
            | inr d ↦ ap (ltb 0) (get_or-set_other marks to y 1 0 d) ∙ f.so_far y (omega arith) k
          ];
        }
      where
        new_mark_at : marked (set marks to 1) to ≡ true
        new_mark_at = ap (ltb 0) (get_or-set_same marks to 1 0 (omega (arith, f.state.long)))

    pub followed_found : wanted to ≡ true → (place : ℕ) → place + 1 ≡ len s → Followed leads N wanted q s (set marks to 1) (Some place)
    followed_found w place e =
        let new = pushed_new leads N r s marks to q.next f.state lt fresh pushed origin in
        let here : place ≡ (len r) = omega (arith, pushed_len pushed) in
        record {
          state = new_state;
          grown = new_grown;
          finds = λ p h.
              let same : p ≡ place = sym (some_same h) in
              (omega (arith, f.grown.longer), omega (arith, pushed_len pushed), ap wanted (ap (node s) (same ∙ here) ∙ new.0) ∙ w);
          misses = λ h. absurd (some_none h);
        }
      where
        some_same : {a b : ℕ} → ◌≡◌ {A = Option ℕ} (Some a) (Some b) → a ≡ b
        some_same h = cc

        some_none : {a : ℕ} → ◌≡◌ {A = Option ℕ} (Some a) None → ⊥
        some_none {a} h = let z : ◌≡◌ {A = ℕ} 0 1 = cc in omega arith

  -- all have been looked at
  pub followed_none : N ≤ to → q.next < len q → (s : Queue) → s.found ≡ r.found → s.next ≡ q.next + 1 → Followed leads N wanted q s marks None
  followed_none all more s e ex =
      let n : (i : ℕ) → node s i ≡ node r i = λ i. ap (λ l. (get_or l.items i nowhere).node) e in
      let m : (i : ℕ) → from s i ≡ from r i = λ i. ap (λ l. (get_or l.items i nowhere).from) e in
      let el : len s ≡ len r = ap (λ l. length l.items) e in
      record {
        state = record {
          long = f.state.long;
          few = f.state.few;
          counted = el ∙ f.state.counted;
          followed = omega (arith, f.grown.longer);
          inside = λ i l. omega (arith, n i, f.state.inside i (omega arith));
          once = λ i j li lj e. f.state.once i j (omega arith) (omega arith) (sym (n i) ∙ e ∙ n j);
          found = λ i l. elim (f.state.found i (omega arith)) [
            | inl e ↦ inl (m i ∙ e)
            | inr h ↦ let lo = h.0 in inr (omega (arith, m i), ap (λ k. leads (node s k) (node s i)) (m i) ∙ ap (leads (node s (from r i))) (n i) ∙ ap (λ x. leads x (node r i)) (n (from r i)) ∙ h.1)
          ];
          marks_found = λ i l. ap (marked marks) (n i) ∙ f.state.marks_found i (omega arith);
          found_marked = λ x l h. let o = f.state.found_marked x l h in let lo = o.1 in (o.0, omega arith, n o.0 ∙ o.2);
          closed = λ i y li ly k. elim (cases_eq i q.next) [
            | inl e ↦ f.so_far y (omega arith) (sym (ap (λ x. leads x y) (n i ∙ ap (node r) e ∙ f.grown.same_node q.next more)) ∙ k)
            | inr d ↦ f.state.closed i y (omega (arith, f.next)) ly (sym (ap (λ x. leads x y) (n i)) ∙ k)
          ];
        };
        grown = record {
          longer = omega (arith, f.grown.longer);
          same_node = λ i l. n i ∙ f.grown.same_node i l;
          same_from = λ i l. m i ∙ f.grown.same_from i l;
          no_start = λ i h l. omega (arith, m i, f.grown.no_start i h (omega arith));
        };
        finds = λ p h. absurd (none_some h);
        misses = λ _. (ex, λ i h l. ap wanted (n i) ∙ f.unwanted i h (omega arith));
      }
    where
      none_some : {a : ℕ} → ◌≡◌ {A = Option ℕ} None (Some a) → ⊥
      none_some {a} h = let z : ◌≡◌ {A = ℕ} 0 1 = cc in omega arith

-- between two nodes followed
pub record Seeking (leads : Leads) (N : ℕ) (wanted : ℕ → Bool) (q r : Queue) (marks : List ℕ) : Type 0 where
  pub state : Searched leads N r marks
  pub grown : Grown q r
  pub unwanted : (i : ℕ) → len q ≤ i → i < len r → wanted (node r i) ≡ false

pub grown_more : (q r s : Queue) → Grown q r → Grown r s → Grown q s
grown_more q r s a b = record {
  longer = omega (arith, a.longer, b.longer);
  same_node = λ i l. b.same_node i (omega (arith, a.longer)) ∙ a.same_node i l;
  same_from = λ i l. b.same_from i (omega (arith, a.longer)) ∙ a.same_from i l;
  no_start = λ i h l. elim (cases_lt i (len r)) [
    | inl k ↦ omega (arith, b.same_from i k, a.no_start i h k)
    | inr k ↦ b.no_start i k l
  ];
}

module _ (leads : Leads) (N : ℕ) (wanted : ℕ → Bool) (q : Queue) where
  pub seeking_none : (marks : List ℕ) → Searched leads N q marks → Seeking leads N wanted q q marks
  seeking_none marks state = record { state = state; grown = grown_none q; unwanted = λ i h l. absurd (omega arith) }

  pub seeking_more : (r s : Queue) (marks marks' : List ℕ) → Seeking leads N wanted q r marks → Followed leads N wanted r s marks' None → Seeking leads N wanted q s marks'
  seeking_more r s marks marks' a b = record {
    state = b.state;
    grown = grown_more q r s a.grown b.grown;
    unwanted = λ i h l. elim (cases_lt i (len r)) [
      | inl k ↦ ap wanted (b.grown.same_node i k) ∙ a.unwanted i h k
      | inr k ↦ (b.misses refl).1 i k l
    ];
  }

  pub sought_found : (r s : Queue) (marks marks' : List ℕ) (place : ℕ) → Seeking leads N wanted q r marks → Followed leads N wanted r s marks' (Some place) → Sought leads N wanted q s marks' (Some place)
  sought_found r s marks marks' place a b = record {
    state = b.state;
    grown = grown_more q r s a.grown b.grown;
    finds = λ p h. let f = b.finds p h in (omega (arith, f.0, a.grown.longer), f.1, f.2);
    misses = λ h. absurd (no_place h);
  }
    where
      no_place : ◌≡◌ {A = Option ℕ} (Some place) None → ⊥
      no_place h = let z : ◌≡◌ {A = ℕ} 0 1 = cc in omega arith

  pub sought_none : (r : Queue) (marks : List ℕ) → Seeking leads N wanted q r marks → len r ≤ r.next → Sought leads N wanted q r marks None
  sought_none r marks a h = record {
    state = a.state;
    grown = a.grown;
    finds = λ p e. absurd (no_place p e);
    misses = λ _. (omega (arith, a.state.followed), a.unwanted);
  }
    where
      no_place : (p : ℕ) → ◌≡◌ {A = Option ℕ} None (Some p) → ⊥
      no_place p h = let z : ◌≡◌ {A = ℕ} 0 1 = cc in omega arith

module _ (leads : Leads) (N : ℕ) (q : Queue) (marks : List ℕ) (y : ℕ) (state : Searched leads N q marks) where
  pub started_not : marked marks y ≡ true → Started leads N q q marks marks y
  started_not m = record {
    state = state;
    there = m;
    longer = omega arith;
    next = refl;
    same_node = λ i _. refl;
    same_from = λ i _. refl;
    is_start = λ i h l. absurd (omega arith);
    still = λ n h. h;
  }

  pub started : y < N → marked marks y ≡ false → (r : Queue) (marks' : List ℕ) → marks' ≡ set marks y 1 → Pushed q r y (len q) → Started leads N q r marks marks' y
  started ly fresh r marks' e pushed =
      let keep = pushed_keeps leads N q r marks y (len q) state ly fresh pushed (inl refl) in
      let new = pushed_new leads N q r marks y (len q) state ly fresh pushed (inl refl) in
      record {
        state = subst (Searched leads N r) (sym e) (pushed_state leads N q r marks y (len q) state ly fresh pushed (inl refl));
        there = ap (λ m. marked m y) e ∙ ap (ltb 0) (get_or-set_same marks y 1 0 (omega (arith, state.long)));
        longer = omega (arith, pushed_len pushed);
        next = pushed.next;
        same_node = λ i l. (keep i l).0;
        same_from = λ i l. (keep i l).1;
        is_start = λ i h l.
            let s : i ≡ (len q) = omega (arith, pushed_len pushed) in
            (ap (node r) s ∙ new.0, ap (from r) s ∙ new.1 ∙ sym s);
        still = λ n m. ap (λ k. marked k n) e ∙ (elim (cases_eq n y) [
          | inl i ↦ ap (marked (set marks y 1)) i ∙ ap (ltb 0) (get_or-set_same marks y 1 0 (omega (arith, state.long)))
          | inr d ↦ ap (ltb 0) (get_or-set_other marks y n 1 0 d) ∙ m
        ]);
      }

all_zero : (n i : ℕ) → ◌≡◌ {A = ℕ} (get_or (replicate n 0) i 0) 0
all_zero zero i = refl
all_zero (suc n) zero = refl
all_zero (suc n) (suc i) = all_zero n i

-- nothing found yet, over cleared bytes
pub searched_none : (leads : Leads) (N : ℕ) (q : Queue) (marks : List ℕ) (n : ℕ) → N ≤ 512 → N ≤ n → marks ≡ replicate n 0 → q.found.items ≡ [] → q.next ≡ 0
    → Searched leads N q marks
searched_none leads N q marks n few long em eq ex =
    let el : len q ≡ 0 = ap length eq in
    let unmarked : (k : ℕ) → marked marks k ≡ false = λ k. is_unmarked marks k (ap (λ l. get_or l k 0) em ∙ all_zero n k) in
    record {
      long = omega (arith, ap length em, length-replicate {A = ℕ} n 0);
      few = few;
      counted = el ∙ sym (sum_none N (λ k. bit (marked marks k)) (λ k _. ap bit (unmarked k)));
      followed = omega arith;
      inside = λ i l. absurd (omega arith);
      once = λ i j l. absurd (omega arith);
      found = λ i l. absurd (omega arith);
      marks_found = λ i l. absurd (omega arith);
      found_marked = λ k l m. absurd (both_ways (marked marks k) (unmarked k) m);
      closed = λ i y l. absurd (omega arith);
    }

-- the first k of the starts are in
pub record Starting (leads : Leads) (N : ℕ) (wanted : ℕ → Bool) (starts : List ℕ) (k : ℕ) (r : Queue) (marks : List ℕ) : Type 0 where
  pub state : Searched leads N r marks
  pub next : r.next ≡ 0
  pub only : (i : ℕ) → i < len r → (from r i ≡ i) × ((j : ℕ) × (j < length starts) × (get_or starts j 0 ≡ node r i))
  pub there : (i : ℕ) → i < k → marked marks (get_or starts i 0) ≡ true
  pub unwanted : (i : ℕ) → i < len r → wanted (node r i) ≡ false

module _ (leads : Leads) (N : ℕ) (wanted : ℕ → Bool) (starts : List ℕ) where
  pub starting_none : (r : Queue) (marks : List ℕ) → Searched leads N r marks → len r ≡ 0 → r.next ≡ 0 → Starting leads N wanted starts 0 r marks
  starting_none r marks state el ex = record {
    state = state;
    next = ex;
    only = λ i l. absurd (omega arith);
    there = λ i l. absurd (omega arith);
    unwanted = λ i l. absurd (omega arith);
  }

  module _ (k : ℕ) (r s : Queue) (marks marks' : List ℕ) (lk : k < length starts) (b : Started leads N r s marks marks' (get_or starts k 0)) where
    starting_only : ((i : ℕ) → i < len r → (from r i ≡ i) × ((j : ℕ) × (j < length starts) × (get_or starts j 0 ≡ node r i)))
        → (i : ℕ) → i < len s → (from s i ≡ i) × ((j : ℕ) × (j < length starts) × (get_or starts j 0 ≡ node s i))
    starting_only a i l = elim (cases_lt i (len r)) [
      | inl h ↦
          let o = a i h in
          let e = b.same_node i h in
          (b.same_from i h ∙ o.0, (o.1.0, o.1.1, o.1.2 ∙ sym e))
      | inr h ↦ let o = b.is_start i h l in (o.1, (k, lk, sym o.0))
    ]

    pub starting_more : Starting leads N wanted starts k r marks → wanted (get_or starts k 0) ≡ false → Starting leads N wanted starts (k + 1) s marks'
    starting_more a unw = record {
      state = b.state;
      next = b.next ∙ a.next;
      only = starting_only a.only;
      there = λ i l. elim (cases_eq i k) [
        | inl e ↦ ap (λ z. marked marks' (get_or starts z 0)) e ∙ b.there
        | inr d ↦ b.still (get_or starts i 0) (a.there i (omega arith))
      ];
      unwanted = λ i l. elim (cases_lt i (len r)) [
        | inl h ↦ ap wanted (b.same_node i h) ∙ a.unwanted i h
        | inr h ↦ ap wanted (b.is_start i h l).0 ∙ unw
      ];
    }

    pub starting_found : Starting leads N wanted starts k r marks → wanted (get_or starts k 0) ≡ true → AllStarted leads N wanted starts s marks' (Some (get_or starts k 0))
    starting_found a w = record {
      state = b.state;
      next = b.next ∙ a.next;
      only = starting_only a.only;
      finds = λ n h. let e : get_or starts k 0 ≡ n = some_is h in ((k, lk, e), ap wanted (sym e) ∙ w);
      misses = λ h. absurd (no_none h);
    }
      where
        some_is : {n : ℕ} → ◌≡◌ {A = Option ℕ} (Some (get_or starts k 0)) (Some n) → get_or starts k 0 ≡ n
        some_is h = cc

        no_none : ◌≡◌ {A = Option ℕ} (Some (get_or starts k 0)) None → ⊥
        no_none h = let z : ◌≡◌ {A = ℕ} 0 1 = cc in omega arith

  pub starting_end : (k : ℕ) (r : Queue) (marks : List ℕ) → Starting leads N wanted starts k r marks → length starts ≤ k → AllStarted leads N wanted starts r marks None
  starting_end k r marks a all = record {
    state = a.state;
    next = a.next;
    only = a.only;
    finds = λ n h. absurd (no_some n h);
    misses = λ _. ((λ i l. a.there i (omega arith)), a.unwanted);
  }
    where
      no_some : (n : ℕ) → ◌≡◌ {A = Option ℕ} None (Some n) → ⊥
      no_some n h = let z : ◌≡◌ {A = ℕ} 0 1 = cc in omega arith

  -- a start of the grown queue is one of the starts
  started_at : (q r : Queue) → ((i : ℕ) → i < len q → (from q i ≡ i) × ((j : ℕ) × (j < length starts) × (get_or starts j 0 ≡ node q i))) → Grown q r
      → (i : ℕ) → i < len r → from r i ≡ i → (j : ℕ) × (j < length starts) × (get_or starts j 0 ≡ node r i)
  started_at q r only grown i l e = elim (cases_lt i (len q)) [
    | inl h ↦ let o = (only i h).1 in (o.0, o.1, o.2 ∙ sym (grown.same_node i h))
    | inr h ↦ absurd (omega (arith, grown.no_start i h l))
  ]

  -- what the whole search answers
  module _ (q r : Queue) (marks marks' : List ℕ) (a : AllStarted leads N wanted starts q marks None) (b : Sought leads N wanted q r marks' None) where
    pub nothing_found : AllNodes N starts → NothingFound leads N wanted starts
    nothing_found inside = record {
      set_of = marked marks';
      holds = λ i l. still (get_or starts i 0) (inside i l) ((a.misses refl).0 i l);
      closed = λ x y lx ly m k.
          let o = b.state.found_marked x lx m in
          let lo = o.1 in
          b.state.closed o.0 y (omega (arith, (b.misses refl).0)) ly (ap (λ z. leads z y) o.2 ∙ k);
      reached = λ n l m.
          let o = b.state.found_marked n l m in
          let c = from_a_start o.0 o.1 in
          (c.0, c.1, subst (λ z. Walk leads (get_or starts c.0 0) z) o.2 c.2);
      unwanted = λ n l m.
          let o = b.state.found_marked n l m in
          ap wanted (sym o.2) ∙ unwanted_at o.0 o.1;
    }
      where
        still : (n : ℕ) → n < N → marked marks n ≡ true → marked marks' n ≡ true
        still n l m =
            let o = a.state.found_marked n l m in
            let lo = o.1 in
            sym (ap (marked marks') (b.grown.same_node o.0 lo ∙ o.2)) ∙ b.state.marks_found o.0 (omega (arith, b.grown.longer))

        unwanted_at : (i : ℕ) → i < len r → wanted (node r i) ≡ false
        unwanted_at i l = elim (cases_lt i (len q)) [
          | inl h ↦ ap wanted (b.grown.same_node i h) ∙ (a.misses refl).1 i h
          | inr h ↦ (b.misses refl).1 i h l
        ]

        from_a_start : (i : ℕ) → i < len r → (j : ℕ) × (j < length starts) × Walk leads (get_or starts j 0) (node r i)
        from_a_start i l =
            let c = chain_from_start leads (len r) (node r) (from r) (record { once = b.state.once; links = b.state.found }) i l in
            let s = started_at q r a.only b.grown c.1 (omega (arith, c.3)) c.4 in
            (s.0, s.1, subst (λ z. Walk leads z (node r i)) (sym s.2) (subst (λ z. Walk leads (node r c.1) z) c.5 (chain_walk leads (node r c.1) c.0 c.2)))

  pub chain_found : (q r : Queue) (marks marks' : List ℕ) (place : ℕ) → AllStarted leads N wanted starts q marks None → Sought leads N wanted q r marks' (Some place) → ChainFound leads wanted starts (node r place)
  chain_found q r marks marks' place a b =
      let f = b.finds place refl in
      let c = chain_from_start leads (len r) (node r) (from r) (record { once = b.state.once; links = b.state.found }) place f.1 in
      let s = started_at q r a.only b.grown c.1 (omega (arith, c.3, f.1)) c.4 in
      record {
        first = node r c.1;
        rest = c.0;
        from_start = s;
        chain = c.2;
        ends = c.5;
        is_wanted = f.2;
      }

  pub chain_of_one : (n : ℕ) → ((j : ℕ) × (j < length starts) × (get_or starts j 0 ≡ n)) × (wanted n ≡ true) → ChainFound leads wanted starts n
  chain_of_one n h = record { first = n; rest = []; from_start = h.0; chain = tt; ends = refl; is_wanted = h.1 }

-- what a search from some starts answers, by how it ends
module _ (leads : Leads) (N : ℕ) (wanted : ℕ → Bool) (starts : List ℕ) (bytes : ℕ) where
  not_ok : {a : Option ℕ} {f : TableFault} → ◌≡◌ {A = Result (Option ℕ) TableFault} (Err f) (Ok a) → ⊥
  not_ok {a} {f} h = let z : ◌≡◌ {A = ℕ} 0 1 = cc in omega arith

  not_err : {a : Option ℕ} {f : TableFault} → ◌≡◌ {A = Result (Option ℕ) TableFault} (Ok a) (Err f) → ⊥
  not_err {a} {f} h = let z : ◌≡◌ {A = ℕ} 0 1 = cc in omega arith

  pub reached_short : bytes < N → Reached leads N wanted starts bytes (Err (Bytes bytes))
  reached_short h = record {
    short = λ _. refl;
    stray = λ l. absurd (omega arith);
    answers = λ l. absurd (omega arith);
    finds = λ n e. absurd (not_ok e);
    misses = λ e. absurd (not_ok e);
  }

  pub reached_stray : (s : ℕ) → N ≤ bytes → FirstStray N starts s → Reached leads N wanted starts bytes (Err (Node s))
  reached_stray s h f =
      let lf = f.3 in
      record {
        short = λ l. absurd (omega arith);
        stray = λ _ i li out before.
            let same : f.0 ≡ i = elim (cases_lt f.0 i) [
              | inl l ↦ absurd (let b = before f.0 l in let e = f.2 in omega arith)
              | inr l ↦ elim (cases_eq f.0 i) [ inl e ↦ e | inr d ↦ absurd (let b = f.4 i (omega arith) in omega arith) ]
            ] in
            let e : s ≡ get_or starts i 0 = sym f.2 ∙ ap (λ k. get_or starts k 0) same in
            ap (λ k. Err (Node k)) e;
        answers = λ _ all. absurd (let b = all f.0 f.1 in let e = f.2 in omega arith);
        finds = λ n e. absurd (not_ok e);
        misses = λ e. absurd (not_ok e);
      }

  inside_all : N ≤ bytes → AllNodes N starts → (r : Result (Option ℕ) TableFault)
      → ((f : TableFault) → r ≡ Err f → ⊥) → ((n : ℕ) → r ≡ Ok (Some n) → ChainFound leads wanted starts n) → (r ≡ Ok None → NothingFound leads N wanted starts)
      → Reached leads N wanted starts bytes r
  inside_all h all r a b c = record {
    short = λ l. absurd (omega arith);
    stray = λ _ i li out before. absurd (let q = all i li in omega arith);
    answers = λ _ _. a;
    finds = b;
    misses = c;
  }

  pub reached_found : N ≤ bytes → AllNodes N starts → (n : ℕ) → ChainFound leads wanted starts n → Reached leads N wanted starts bytes (Ok (Some n))
  reached_found h all n c = inside_all h all (Ok (Some n)) (λ f e. not_err e) (λ m e. subst (ChainFound leads wanted starts) (same e) c) (λ e. absurd (differ e))
    where
      same : {m : ℕ} → ◌≡◌ {A = Result (Option ℕ) TableFault} (Ok (Some n)) (Ok (Some m)) → n ≡ m
      same e = cc

      differ : ◌≡◌ {A = Result (Option ℕ) TableFault} (Ok (Some n)) (Ok None) → ⊥
      differ e = let z : ◌≡◌ {A = ℕ} 0 1 = cc in omega arith

  pub reached_none : N ≤ bytes → AllNodes N starts → NothingFound leads N wanted starts → Reached leads N wanted starts bytes (Ok None)
  reached_none h all c = inside_all h all (Ok None) (λ f e. not_err e) (λ m e. absurd (differ e)) (λ _. c)
    where
      differ : {m : ℕ} → ◌≡◌ {A = Result (Option ℕ) TableFault} (Ok None) (Ok (Some m)) → ⊥
      differ {m} e = let z : ◌≡◌ {A = ℕ} 0 1 = cc in omega arith

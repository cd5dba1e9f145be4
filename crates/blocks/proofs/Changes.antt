-- One link more or less, and a chain turned after it: what becomes of a level.
use Rattle.std.proofs.Common.{◌≡◌, ℕ, ◌+◌, ◌-◌, ◌<◌, ◌≤◌, true, false, cond, ◌&&◌, eqb, leb, ◌⊎◌, List, sym, refl, ap, subst, inl, inr, arith}
use Rattle.std.proofs.lemmas.Bool.{cases_Bool, cases_lt, cases_eq, eqb-true, and_parts}
use Rattle.std.proofs.lemmas.Bool.Decides.{nat_tests}
use Rattle.blocks.specs.Sums.{sum, bit}
use Rattle.blocks.specs.Sets.{Set}
use Rattle.blocks.specs.Networks.{Leads, Network, load, over, leads_in, Walk, here, step, Tight}
use Rattle.blocks.specs.Chains.{Chain, end, turned, with_lead, without_lead}
use Rattle.blocks.proofs.Sums.{sum_cong, sum_le, sum_lt, sum_add, sum_at}
use Rattle.blocks.proofs.Duality.{Attained, weak_duality, attained_tight}
use Rattle.blocks.proofs.Reaching.{tight_attained}
use Rattle.blocks.proofs.Chains.{chain_load, chain_net, chain_pairs, chain_walk}

-- over, where one load is one more
pub over_plus : (N : ℕ) (m k ℓ : ℕ → ℕ) (s : ℕ) → s < N → ((z : ℕ) → z < N → k z ≡ m z + bit (eqb z s)) → over N k ℓ ≡ over N m ℓ + bit (leb (ℓ s) (m s))
over_plus N m k ℓ s l h =
    let a = sum_cong N (λ z. k z - ℓ z) (λ z. (m z - ℓ z) + cond (eqb z s) (bit (leb (ℓ s) (m s))) 0) each in
    let b = sum_add N (λ z. m z - ℓ z) (λ z. cond (eqb z s) (bit (leb (ℓ s) (m s))) 0) in
    let c = sum_at N s (bit (leb (ℓ s) (m s))) l in omega arith
  where
    each : (z : ℕ) → z < N → k z - ℓ z ≡ (m z - ℓ z) + cond (eqb z s) (bit (leb (ℓ s) (m s))) 0
    each z zl = let e = h z zl in grind (arith, nat_tests)

module _ (N : ℕ) (leads : Leads) (x y : ℕ) (lx : x < N) (ly : y < N) where
  pub added_load : leads x y ≡ false → (z : ℕ) → load N (with_lead x y leads) z ≡ load N leads z + bit (eqb z y)
  added_load f z =
      let a = sum_cong N (λ a. bit (with_lead x y leads a z)) (λ a. bit (leads a z) + cond (eqb a x) (bit (eqb z y)) 0) (λ a _. grind (arith, nat_tests)) in
      let b = sum_add N (λ a. bit (leads a z)) (λ a. cond (eqb a x) (bit (eqb z y)) 0) in
      let c = sum_at N x (bit (eqb z y)) lx in omega arith

  pub removed_load : leads x y ≡ true → (z : ℕ) → load N leads z ≡ load N (without_lead x y leads) z + bit (eqb z y)
  removed_load f z =
      let a = sum_cong N (λ a. bit (leads a z)) (λ a. bit (without_lead x y leads a z) + cond (eqb a x) (bit (eqb z y)) 0) (λ a _. grind (arith, nat_tests)) in
      let b = sum_add N (λ a. bit (without_lead x y leads a z)) (λ a. cond (eqb a x) (bit (eqb z y)) 0) in
      let c = sum_at N x (bit (eqb z y)) lx in omega arith

  added_pairs : (X : Set) → leads_in N leads X ≤ leads_in N (with_lead x y leads) X
  added_pairs X =
      sum_le N (λ a. sum N (λ b. bit (leads a b && (X a && X b)))) (λ a. sum N (λ b. bit (with_lead x y leads a b && (X a && X b))))
      (λ a _. sum_le N (λ b. bit (leads a b && (X a && X b))) (λ b. bit (with_lead x y leads a b && (X a && X b)))
      (λ b _. grind arith))

  removed_pairs : (X : Set) → leads_in N leads X ≤ leads_in N (without_lead x y leads) X + 1
  removed_pairs X =
      let p = sum_le N (λ a. sum N (λ b. bit (leads a b && (X a && X b)))) (λ a. sum N (λ b. bit (without_lead x y leads a b && (X a && X b))) + cond (eqb a x) 1 0) row in
      let q = sum_add N (λ a. sum N (λ b. bit (without_lead x y leads a b && (X a && X b)))) (λ a. cond (eqb a x) 1 0) in
      let r = sum_at N x 1 lx in
      omega arith
    where
      row : (a : ℕ) → a < N → sum N (λ b. bit (leads a b && (X a && X b))) ≤ sum N (λ b. bit (without_lead x y leads a b && (X a && X b))) + cond (eqb a x) 1 0
      row a _ =
          let p = sum_le N (λ b. bit (leads a b && (X a && X b))) (λ b. bit (without_lead x y leads a b && (X a && X b)) + cond (eqb b y) (bit (eqb a x)) 0) (λ b _. grind arith) in
          let q = sum_add N (λ b. bit (without_lead x y leads a b && (X a && X b))) (λ b. cond (eqb b y) (bit (eqb a x)) 0) in
          let r = sum_at N y (bit (eqb a x)) ly in
          let e : bit (eqb a x) ≡ cond (eqb a x) 1 0 = grind arith in
          omega arith

  pub added_net : Network N leads → leads y x ≡ false → (x ≡ y → ⊥) → Network N (with_lead x y leads)
  added_net net f d = record {
    within = λ a b t. let w = net.within a b in grind (arith, nat_tests);
    one_way = λ a b t u. let o = net.one_way a b in grind (arith, nat_tests);
  }

  pub removed_net : Network N leads → Network N (without_lead x y leads)
  removed_net net = record {
    within = λ a b t. let w = net.within a b in grind arith;
    one_way = λ a b t u. let o = net.one_way a b in grind arith;
  }

-- A chain turned: `over` before and after
module _ (N : ℕ) (leads : Leads) (net : Network N leads) (s : ℕ) (vs : List ℕ) (chain : Chain leads s vs) (ls : s < N) (le : end s vs < N) where
  pub turned_over : (ℓ : ℕ → ℕ)
      → over N (load N (turned s vs leads)) ℓ + bit (leb (ℓ (end s vs)) (load N (turned s vs leads) (end s vs))) ≡ over N (load N leads) ℓ + bit (leb (ℓ s) (load N leads s))
  turned_over ℓ =
      let a = over_plus N (load N leads) (λ z. load N leads z + bit (eqb z s)) ℓ s ls (λ z _. refl) in
      let b = over_plus N (load N (turned s vs leads)) (λ z. load N leads z + bit (eqb z s)) ℓ (end s vs) le (λ z _. sym (chain_load N s vs leads net chain z)) in
      omega arith

  -- the last node, where it is not the first
  pub end_loses : (s ≡ end s vs → ⊥) → load N (turned s vs leads) (end s vs) + 1 ≡ load N leads (end s vs)
  end_loses d = let a = chain_load N s vs leads net chain (end s vs) in grind (arith, nat_tests)

  -- section 5: from under to over at a level, limits rising with the level
  module _ (ℓ : ℕ → ℕ → ℕ) (L : ℕ) (rising : (a c n : ℕ) → a ≤ c → c < L → ℓ a n ≤ ℓ c n) (a : ℕ) (la : a < L) (under : load N leads s < ℓ a s) (above : ℓ a (end s vs) < load N leads (end s vs)) where
    differ : s ≡ end s vs → ⊥
    differ e =
        let p = ap (load N leads) e in
        let q = ap (ℓ a) e in omega arith

    pub falls_here : over N (load N (turned s vs leads)) (ℓ a) + 1 ≡ over N (load N leads) (ℓ a)
    falls_here = let t = turned_over (ℓ a) in let e = end_loses differ in grind (arith, nat_tests)

    pub never_rises : (c : ℕ) → c < L → over N (load N (turned s vs leads)) (ℓ c) ≤ over N (load N leads) (ℓ c)
    never_rises c lc =
        let t = turned_over (ℓ c) in let e = end_loses differ in
        elim (cases_lt a c) [
          | inl h ↦ let r = rising a c s (omega arith) lc in grind (arith, nat_tests)
          | inr h ↦ let r = rising c a (end s vs) h la in grind (arith, nat_tests)
        ]

    pub settling : sum L (λ c. over N (load N (turned s vs leads)) (ℓ c)) < sum L (λ c. over N (load N leads) (ℓ c))
    settling = sum_lt L (λ c. over N (load N (turned s vs leads)) (ℓ c)) (λ c. over N (load N leads) (ℓ c)) never_rises a la (let f = falls_here in omega arith)

-- a walk with a link added is an old one, or goes through the new link
pub added_walk : (leads : Leads) (x y u o : ℕ) → Walk (with_lead x y leads) u o → Walk leads u o ⊎ Walk (with_lead x y leads) u y
added_walk leads x y u o here = inl here
added_walk leads x y u o (step {y = v} k r) = elim (added_walk leads x y v o r) [
  | inr w ↦ inr (step k w)
  | inl w ↦ elim (cases_Bool (eqb u x && eqb v y)) [
    | inl t ↦ inr (subst (λ z. Walk (with_lead x y leads) u z) (eqb-true v y (and_parts (eqb u x) (eqb v y) t).1) (step k here))
    | inr f ↦ inl (step (grind arith) w)
  ]
]

pub removed_walk : (leads : Leads) (x y u o : ℕ) → Walk (without_lead x y leads) u o → Walk leads u o
removed_walk leads x y u o here = here
removed_walk leads x y u o (step {y = v} k r) = step (grind arith) (removed_walk leads x y v o r)

-- section 6: a link added, and a chain turned that ends where the new link does
module _ (N : ℕ) (leads : Leads) (net : Network N leads) (x y : ℕ) (lx : x < N) (ly : y < N) (no : leads x y ≡ false) (no_back : leads y x ≡ false) (differ : x ≡ y → ⊥)
    (s : ℕ) (ls : s < N) (vs : List ℕ) (chain : Chain (with_lead x y leads) s vs) (ends : end s vs ≡ y) where
  plus_net : Network N (with_lead x y leads)
  plus_net = added_net N leads x y lx ly net no_back differ

  pub added_loads : (z : ℕ) → load N (turned s vs (with_lead x y leads)) z ≡ load N leads z + bit (eqb z s)
  added_loads z =
      let a = chain_load N s vs (with_lead x y leads) plus_net chain z in
      let b = added_load N leads x y lx ly no z in
      let c = ap (λ e. bit (eqb z e)) ends in omega arith

  module _ (ℓ : ℕ → ℕ) (tight : Tight N leads ℓ) where
    new_over : over N (load N (turned s vs (with_lead x y leads))) ℓ ≡ over N (load N leads) ℓ + bit (leb (ℓ s) (load N leads s))
    new_over = over_plus N (load N leads) (load N (turned s vs (with_lead x y leads))) ℓ s ls (λ z _. added_loads z)

    plus_over : over N (load N (with_lead x y leads)) ℓ ≡ over N (load N leads) ℓ + bit (leb (ℓ y) (load N leads y))
    plus_over = over_plus N (load N leads) (load N (with_lead x y leads)) ℓ y ly (λ z _. added_load N leads x y lx ly no z)

    -- s is under its limit
    added_under : load N leads s < ℓ s → Attained N (turned s vs (with_lead x y leads)) ℓ
    added_under under =
        let t = tight_attained N leads ℓ net tight in
        let X = t.0 in
        let e = t.1 in
        let a = added_pairs N leads x y lx ly X in
        let b = chain_pairs N s vs (with_lead x y leads) plus_net chain X in
        let c = weak_duality N (turned s vs (with_lead x y leads)) ℓ X in
        let d = new_over in
        (X, grind (arith, nat_tests))

    plus_tight : ((n : ℕ) → n < N → Walk (with_lead x y leads) n y → ℓ n ≤ load N leads n) → Tight N (with_lead x y leads) ℓ
    plus_tight full u o lu lo under above w =
        let p = added_load N leads x y lx ly no u in
        let q = added_load N leads x y lx ly no o in
        let through : Walk (with_lead x y leads) u y → ⊥ = λ v. let f = full u lu v in omega arith in
        elim (cases_eq o y) [
          | inl e ↦ through (subst (λ z. Walk (with_lead x y leads) u z) e w)
          | inr d ↦ elim (added_walk leads x y u o w) [
            | inr v ↦ through v
            | inl v ↦ tight u o lu lo (omega arith) (grind (arith, nat_tests)) v
          ]
        ]

    -- s is at its limit or over it, and so is all that leads to y
    added_full : ((n : ℕ) → n < N → Walk (with_lead x y leads) n y → ℓ n ≤ load N leads n) → Attained N (turned s vs (with_lead x y leads)) ℓ
    added_full full =
        let t = tight_attained N (with_lead x y leads) ℓ plus_net (plus_tight full) in
        let X = t.0 in
        let e = t.1 in
        let b = chain_pairs N s vs (with_lead x y leads) plus_net chain X in
        let c = new_over in
        let d = plus_over in
        let f = full s ls (subst (λ z. Walk (with_lead x y leads) s z) ends (chain_walk (with_lead x y leads) s vs chain)) in
        let g = full y ly here in
        (X, grind (arith, nat_tests))

    pub added_tight : (load N leads s < ℓ s) ⊎ ((n : ℕ) → n < N → Walk (with_lead x y leads) n y → ℓ n ≤ load N leads n) → Tight N (turned s vs (with_lead x y leads)) ℓ
    added_tight either =
        attained_tight N (turned s vs (with_lead x y leads)) ℓ (chain_net N s vs (with_lead x y leads) plus_net chain)
        (elim either [ inl under ↦ added_under under | inr full ↦ added_full full ])

-- section 7: a link removed, and a chain turned that begins where the link ended
module _ (N : ℕ) (leads : Leads) (net : Network N leads) (x y : ℕ) (link : leads x y ≡ true)
    (vs : List ℕ) (chain : Chain (without_lead x y leads) y vs) (le : end y vs < N) where
  minus_net : Network N (without_lead x y leads)
  minus_net = removed_net N leads x y (net.within x y link).0 (net.within x y link).1 net

  minus_load : (z : ℕ) → load N leads z ≡ load N (without_lead x y leads) z + bit (eqb z y)
  minus_load = removed_load N leads x y (net.within x y link).0 (net.within x y link).1 link

  pub removed_loads : (z : ℕ) → load N leads z ≡ load N (turned y vs (without_lead x y leads)) z + bit (eqb z (end y vs))
  removed_loads z =
      let a = chain_load N y vs (without_lead x y leads) minus_net chain z in
      let b = minus_load z in omega arith

  module _ (ℓ : ℕ → ℕ) (tight : Tight N leads ℓ) where
    drop_over : over N (load N leads) ℓ ≡ over N (load N (turned y vs (without_lead x y leads))) ℓ + bit (leb (ℓ (end y vs)) (load N (turned y vs (without_lead x y leads)) (end y vs)))
    drop_over = over_plus N (load N (turned y vs (without_lead x y leads))) (load N leads) ℓ (end y vs) le (λ z _. removed_loads z)

    minus_over : over N (load N leads) ℓ ≡ over N (load N (without_lead x y leads)) ℓ + bit (leb (ℓ y) (load N (without_lead x y leads) y))
    minus_over = over_plus N (load N (without_lead x y leads)) (load N leads) ℓ y (net.within x y link).1 (λ z _. minus_load z)

    -- the last node is over its limit
    removed_above : ℓ (end y vs) < load N leads (end y vs) → Attained N (turned y vs (without_lead x y leads)) ℓ
    removed_above above =
        let t = tight_attained N leads ℓ net tight in
        let X = t.0 in
        let e = t.1 in
        let a = removed_pairs N leads x y (net.within x y link).0 (net.within x y link).1 X in
        let b = chain_pairs N y vs (without_lead x y leads) minus_net chain X in
        let c = weak_duality N (turned y vs (without_lead x y leads)) ℓ X in
        let d = drop_over in
        let f = removed_loads (end y vs) in
        (X, grind (arith, nat_tests))

    minus_tight : ((n : ℕ) → n < N → Walk (without_lead x y leads) y n → load N leads n ≤ ℓ n) → Tight N (without_lead x y leads) ℓ
    minus_tight calm u o lu lo under above w =
        let p = minus_load u in
        let q = minus_load o in
        elim (cases_eq u y) [
          | inl e ↦ let f = calm o lo (subst (λ z. Walk (without_lead x y leads) z o) e w) in omega arith
          | inr d ↦ tight u o lu lo (grind (arith, nat_tests)) (omega arith) (removed_walk leads x y u o w)
        ]

    -- the last node is not over its limit, and neither is any that y leads to
    removed_calm : ((n : ℕ) → n < N → Walk (without_lead x y leads) y n → load N leads n ≤ ℓ n) → Attained N (turned y vs (without_lead x y leads)) ℓ
    removed_calm calm =
        let t = tight_attained N (without_lead x y leads) ℓ minus_net (minus_tight calm) in
        let X = t.0 in
        let e = t.1 in
        let b = chain_pairs N y vs (without_lead x y leads) minus_net chain X in
        let c = drop_over in
        let d = minus_over in
        let f = calm (end y vs) le (chain_walk (without_lead x y leads) y vs chain) in
        let g = calm y (net.within x y link).1 here in
        let h = removed_loads (end y vs) in
        let i = minus_load y in
        (X, grind (arith, nat_tests))

    pub removed_tight : (ℓ (end y vs) < load N leads (end y vs)) ⊎ ((n : ℕ) → n < N → Walk (without_lead x y leads) y n → load N leads n ≤ ℓ n) → Tight N (turned y vs (without_lead x y leads)) ℓ
    removed_tight either =
        attained_tight N (turned y vs (without_lead x y leads)) ℓ (chain_net N y vs (without_lead x y leads) minus_net chain)
        (elim either [ inl above ↦ removed_above above | inr calm ↦ removed_calm calm ])

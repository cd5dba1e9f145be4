-- EvenNetwork sides stay even: a pair added or dropped, and one chain turned.
use Rattle.std.proofs.Common.{◌≡◌, ℕ, ◌+◌, ◌<◌, ◌≤◌, min, true, false, cond, eqb, List, [], refl, ap, inl, inr, arith}
use Rattle.std.proofs.lemmas.Bool.{cases_lt, cases_eq}
use Rattle.std.proofs.lemmas.Bool.Decides.{nat_tests}
use Rattle.blocks.specs.Sums.{bit}
use Rattle.blocks.specs.Networks.{Leads, Network, load, degree, Walk, here, step, Tight}
use Rattle.blocks.specs.Chains.{Chain, end, turned, with_lead, without_lead}
use Rattle.blocks.specs.Sides.{EvenNetwork, Levels}
use Rattle.blocks.proofs.Sums.{sum_cong, sum_le, sum_lt, sum_add, sum_at}
use Rattle.blocks.proofs.Chains.{chain_joins, walk_chain, chain_walk}
use Rattle.blocks.proofs.Changes.{added_tight, added_loads, removed_tight, removed_loads, added_net, removed_net}

-- with more pairs than load, some pair leads away; with as many, none
pub load_degree : (N : ℕ) (leads : Leads) (n : ℕ) → load N leads n ≤ degree N leads n
load_degree N leads n = sum_le N (λ m. bit (leads m n)) (λ m. bit (leads n m) + bit (leads m n)) (λ m _. omega arith)

pub away : (N : ℕ) (leads : Leads) (n m : ℕ) → m < N → leads n m ≡ true → load N leads n < degree N leads n
away N leads n m l k =
    sum_lt N (λ m. bit (leads m n)) (λ m. bit (leads n m) + bit (leads m n)) (λ m _. omega arith) m l
    (let h : bit (leads n m) ≡ 1 = ap bit k in omega arith)

pub degree_turned : (N x : ℕ) (vs : List ℕ) (leads : Leads) → Network N leads → Chain leads x vs → (n : ℕ) → degree N (turned x vs leads) n ≡ degree N leads n
degree_turned N x vs leads net c n =
    sum_cong N (λ m. bit (turned x vs leads n m) + bit (turned x vs leads m n)) (λ m. bit (leads n m) + bit (leads m n))
    (λ m _. chain_joins N x vs leads net c n m)

degree_added : (N : ℕ) (leads : Leads) (x y : ℕ) → x < N → y < N → leads x y ≡ false → (n : ℕ)
    → degree N (with_lead x y leads) n ≡ degree N leads n + bit (eqb n x) + bit (eqb n y)
degree_added N leads x y lx ly f n =
    let a = sum_cong N (λ m. bit (with_lead x y leads n m) + bit (with_lead x y leads m n))
    (λ m. (bit (leads n m) + bit (leads m n)) + (cond (eqb m y) (bit (eqb n x)) 0 + cond (eqb m x) (bit (eqb n y)) 0)) each in
    let b = sum_add N (λ m. bit (leads n m) + bit (leads m n)) (λ m. cond (eqb m y) (bit (eqb n x)) 0 + cond (eqb m x) (bit (eqb n y)) 0) in
    let c = sum_add N (λ m. cond (eqb m y) (bit (eqb n x)) 0) (λ m. cond (eqb m x) (bit (eqb n y)) 0) in
    let d = sum_at N y (bit (eqb n x)) ly in
    let e = sum_at N x (bit (eqb n y)) lx in
    omega arith
  where
    each : (m : ℕ) → m < N → bit (with_lead x y leads n m) + bit (with_lead x y leads m n) ≡ (bit (leads n m) + bit (leads m n)) + (cond (eqb m y) (bit (eqb n x)) 0 + cond (eqb m x) (bit (eqb n y)) 0)
    each m _ = grind (arith, nat_tests)

degree_removed : (N : ℕ) (leads : Leads) (x y : ℕ) → x < N → y < N → leads x y ≡ true → (n : ℕ)
    → degree N leads n ≡ degree N (without_lead x y leads) n + bit (eqb n x) + bit (eqb n y)
degree_removed N leads x y lx ly f n =
    let a = sum_cong N (λ m. bit (leads n m) + bit (leads m n))
    (λ m. (bit (without_lead x y leads n m) + bit (without_lead x y leads m n)) + (cond (eqb m y) (bit (eqb n x)) 0 + cond (eqb m x) (bit (eqb n y)) 0)) each in
    let b = sum_add N (λ m. bit (without_lead x y leads n m) + bit (without_lead x y leads m n)) (λ m. cond (eqb m y) (bit (eqb n x)) 0 + cond (eqb m x) (bit (eqb n y)) 0) in
    let c = sum_add N (λ m. cond (eqb m y) (bit (eqb n x)) 0) (λ m. cond (eqb m x) (bit (eqb n y)) 0) in
    let d = sum_at N y (bit (eqb n x)) ly in
    let e = sum_at N x (bit (eqb n y)) lx in
    omega arith
  where
    each : (m : ℕ) → m < N → bit (leads n m) + bit (leads m n) ≡ (bit (without_lead x y leads n m) + bit (without_lead x y leads m n)) + (cond (eqb m y) (bit (eqb n x)) 0 + cond (eqb m x) (bit (eqb n y)) 0)
    each m _ = grind (arith, nat_tests)

-- a walk from a node from which nothing leads away goes nowhere
pub stays : {leads : Leads} {u o : ℕ} → Walk leads u o → ((m : ℕ) → leads u m ≡ true → ⊥) → u ≡ o
stays here f = refl
stays (step {y = y} k r) f = absurd (f y k)

module _ (B N L : ℕ) (ℓ : ℕ → ℕ → ℕ) (limits : Levels B L ℓ) where
  pub even_tight : (leads : Leads) → Network N leads → EvenNetwork B N L ℓ leads → (a : ℕ) → a < L → Tight N leads (ℓ a)
  even_tight leads net even a la u o lu lo under above w =
      elim (cases_lt o B) [
        | inl ob ↦ let p = even.bus o ob in let q = limits.of_bus a o la ob in omega arith
        | inr op ↦ elim (cases_lt u B) [
          | inl ub ↦
              let p = even.bus u ub in
              let q = limits.of_bus a u la ub in
              let d = load_degree N leads u in
              let e = stays w (λ m k. let v = away N leads u m (net.within u m k).1 k in omega arith) in
              omega arith
          | inr up ↦
              let c = walk_chain w in
              let e = c.2 in
              even.post a u c.0 la up lu (omega arith) (omega arith) c.1 under (rw e above)
        ]
      ]

  pub tight_even : (leads : Leads) → ((b : ℕ) → b < B → load N leads b ≡ min (ℓ 0 b) (degree N leads b))
      → ((a : ℕ) → a < L → Tight N leads (ℓ a)) → EvenNetwork B N L ℓ leads
  tight_even leads bus tight = record {
    bus = bus;
    post = λ a s vs la bs ls be le c under above. tight a la s (end s vs) ls le under above (chain_walk leads s vs c);
  }

  -- A pair added that its bus carries: it is below its limit, nothing else turns.
  pub even_added_to_bus : (leads : Leads) → Network N leads → EvenNetwork B N L ℓ leads → (b p : ℕ) → b < B → B ≤ N → B ≤ p → p < N
      → leads b p ≡ false → leads p b ≡ false → load N leads b < ℓ 0 b → EvenNetwork B N L ℓ (with_lead p b leads)
  even_added_to_bus leads net even b p lb bn bp lp fresh no_back under =
      tight_even (with_lead p b leads) bus
      (λ a la. added_tight N leads net p b lp (omega arith) no_back fresh (omega arith) b (omega arith) [] tt refl (ℓ a) (even_tight leads net even a la)
      (inl (let q = limits.of_bus a b la lb in omega arith)))
    where
      bus : (n : ℕ) → n < B → load N (with_lead p b leads) n ≡ min (ℓ 0 n) (degree N (with_lead p b leads) n)
      bus n ln =
          let e = even.bus n ln in
          let f = even.bus b lb in
          let g = added_loads N leads net p b lp (omega arith) no_back fresh (omega arith) b (omega arith) [] tt refl n in
          let d = degree_added N leads p b lp (omega arith) no_back n in
          let c = load_degree N leads b in
          grind (arith, nat_tests)

  -- A pair added that its post carries: the bus is at its limit; a chain to the post is turned. It begins at a post s that
  -- is under its limit wherever any post that leads to p is.
  module _ (leads : Leads) (net : Network N leads) (even : EvenNetwork B N L ℓ leads) (b p : ℕ) (lb : b < B) (bn : B ≤ N) (bp : B ≤ p) (lp : p < N)
      (fresh : leads b p ≡ false) (no_back : leads p b ≡ false) (at-limit : ℓ 0 b ≤ load N leads b)
      (s : ℕ) (bs : B ≤ s) (ls : s < N) (vs : List ℕ) (chain : Chain (with_lead b p leads) s vs) (ends : end s vs ≡ p)
      (choice : (n a : ℕ) → B ≤ n → n < N → a < L → Walk (with_lead b p leads) n p → load N leads n < ℓ a n → load N leads s < ℓ a s) where
    loads : (z : ℕ) → load N (turned s vs (with_lead b p leads)) z ≡ load N leads z + bit (eqb z s)
    loads = added_loads N leads net b p (omega arith) lp fresh no_back (omega arith) s ls vs chain ends

    added_bus : (n : ℕ) → n < B → load N (turned s vs (with_lead b p leads)) n ≡ min (ℓ 0 n) (degree N (turned s vs (with_lead b p leads)) n)
    added_bus n ln =
        let e = even.bus n ln in
        let f = even.bus b lb in
        let g = loads n in
        let h = degree_turned N s vs (with_lead b p leads) (added_net N leads b p (omega arith) lp net no_back (omega arith)) chain n in
        let d = degree_added N leads b p (omega arith) lp fresh n in
        let c = load_degree N leads b in
        grind (arith, nat_tests)

    all_full : (a : ℕ) → a < L → ℓ a s ≤ load N leads s → (n : ℕ) → n < N → Walk (with_lead b p leads) n p → ℓ a n ≤ load N leads n
    all_full a la fs n ln w = elim (cases_lt (load N leads n) (ℓ a n)) [
      | inr h ↦ h
      | inl h ↦ elim (cases_lt n B) [
        | inr bn ↦ let c = choice n a bn ln la w h in absurd (omega arith)
        | inl nb ↦ elim (cases_eq n b) [
          | inl e ↦ let q = limits.of_bus a b la lb in let i = ap (ℓ a) e in let j = ap (load N leads) e in omega arith
          | inr d ↦
              let f = even.bus n nb in
              let q = limits.of_bus a n la nb in
              let g = stays w (λ m k.
              let k2 : leads n m ≡ true = grind (arith, nat_tests) in
              let v = away N leads n m (net.within n m k2).1 k2 in omega arith) in
              absurd (omega arith)
        ]
      ]
    ]

    pub even_added_to_post : EvenNetwork B N L ℓ (turned s vs (with_lead b p leads))
    even_added_to_post =
        tight_even (turned s vs (with_lead b p leads)) added_bus
        (λ a la. added_tight N leads net b p (omega arith) lp fresh no_back (omega arith) s ls vs chain ends (ℓ a) (even_tight leads net even a la)
        (elim (cases_lt (load N leads s) (ℓ a s)) [ inl h ↦ inl h | inr h ↦ inr (all_full a la h) ]))

  -- A pair dropped. If y carried it, and y is a post or has more pairs than its limit, a chain is turned that begins at y and ends at a post
  -- that is over its limit wherever any post to which y leads is.
  module _ (leads : Leads) (net : Network N leads) (even : EvenNetwork B N L ℓ leads) (x y : ℕ) (link : leads x y ≡ true) (heavy : y < B → ℓ 0 y < degree N leads y)
      (vs : List ℕ) (chain : Chain (without_lead x y leads) y vs) (be : B ≤ end y vs) (le : end y vs < N)
      (choice : (n a : ℕ) → B ≤ n → n < N → a < L → Walk (without_lead x y leads) y n → ℓ a n < load N leads n → ℓ a (end y vs) < load N leads (end y vs)) where
    dropped_bus : (n : ℕ) → n < B → load N (turned y vs (without_lead x y leads)) n ≡ min (ℓ 0 n) (degree N (turned y vs (without_lead x y leads)) n)
    dropped_bus n ln =
        let w = net.within x y link in
        let e = even.bus n ln in
        let g = removed_loads N leads net x y link vs chain le n in
        let h = degree_turned N y vs (without_lead x y leads) (removed_net N leads x y w.0 w.1 net) chain n in
        let d = degree_removed N leads x y w.0 w.1 link n in
        let c = away N leads x y w.1 link in
        let o : x ≡ y → ⊥ = λ e. net.one_way x y link (cc) in
        grind (arith, nat_tests)

    pub even_dropped : EvenNetwork B N L ℓ (turned y vs (without_lead x y leads))
    even_dropped =
        tight_even (turned y vs (without_lead x y leads)) dropped_bus
        (λ a la. removed_tight N leads net x y link vs chain le (ℓ a) (even_tight leads net even a la)
        (elim (cases_lt (ℓ a (end y vs)) (load N leads (end y vs))) [
          | inl h ↦ inl h
          | inr h ↦ inr (λ n ln w. elim (cases_lt (ℓ a n) (load N leads n)) [
            | inr k ↦ k
            | inl k ↦ elim (cases_lt n B) [
              | inl nb ↦ let p = even.bus n nb in let q = limits.of_bus a n la nb in omega arith
              | inr bn ↦ let c = choice n a bn ln la w k in absurd (omega arith)
            ]
          ])
        ]))

  -- A pair dropped from a bus that has no more pairs than its limit: nothing turns.
  pub even_dropped_light : (leads : Leads) → Network N leads → EvenNetwork B N L ℓ leads → (x y : ℕ) → leads x y ≡ true → y < B → degree N leads y ≤ ℓ 0 y
      → EvenNetwork B N L ℓ (without_lead x y leads)
  even_dropped_light leads net even x y link yb light =
      tight_even (without_lead x y leads) bus
      (λ a la. removed_tight N leads net x y link [] tt (net.within x y link).1 (ℓ a) (even_tight leads net even a la) (inr (calm a la)))
    where
      calm : (a : ℕ) → a < L → (n : ℕ) → n < N → Walk (without_lead x y leads) y n → load N leads n ≤ ℓ a n
      calm a la n ln w =
          let e = even.bus y yb in
          let q = limits.of_bus a y la yb in
          let g = stays w (λ m k.
          let k2 : leads y m ≡ true = grind arith in
          let v = away N leads y m (net.within y m k2).1 k2 in omega arith) in
          let i = ap (ℓ a) g in let j = ap (load N leads) g in omega arith

      bus : (n : ℕ) → n < B → load N (without_lead x y leads) n ≡ min (ℓ 0 n) (degree N (without_lead x y leads) n)
      bus n ln =
          let w = net.within x y link in
          let e = even.bus n ln in
          let g = removed_loads N leads net x y link [] tt (net.within x y link).1 n in
          let d = degree_removed N leads x y w.0 w.1 link n in
          let c = away N leads x y w.1 link in
          let o : x ≡ y → ⊥ = λ e. net.one_way x y link (cc) in
          grind (arith, nat_tests)

-- EvenNetwork sides exist: first the buses, then the posts.
use Rattle.std.proofs.Common.{◌≡◌, ℕ, zero, suc, ◌+◌, ◌-◌, ◌<◌, ◌≤◌, min, true, false, ◌⊎◌, sym, refl, ap, ◌∙◌, subst, inl, inr, arith}
use Rattle.std.proofs.lemmas.Bool.{cases_Bool, cases_lt, cases_eq}
use Rattle.std.proofs.lemmas.Bool.Decides.{nat_tests}
use Rattle.blocks.specs.Sums.{sum, bit}
use Rattle.blocks.specs.Networks.{Leads, Network, load, degree, over}
use Rattle.blocks.specs.Chains.{end, turn, turned}
use Rattle.blocks.specs.Sides.{EvenNetwork, Levels, Crossing}
use Rattle.blocks.proofs.Sums.{sum_cong, sum_lt, sum_none}
use Rattle.blocks.proofs.Chains.{turn_load, turn_net, turn_joins, chain_net, chain_load, chain_joins, chain_walk}
use Rattle.blocks.proofs.Reaching.{some_or_all}
use Rattle.blocks.proofs.Changes.{settling}
use Rattle.blocks.proofs.Settling.{Uneven, all_tight_or_uneven}
use Rattle.blocks.proofs.Evenness.{away, degree_turned, stays, tight_even}

-- who joins whom is the same
abbrev pub SamePairs : Leads → Leads → Type 0
SamePairs f g = (a b : ℕ) → bit (f a b) + bit (f b a) ≡ bit (g a b) + bit (g b a)

degree_same : (N : ℕ) (f g : Leads) → SamePairs f g → (n : ℕ) → degree N f n ≡ degree N g n
degree_same N f g h n = sum_cong N (λ m. bit (f n m) + bit (f m n)) (λ m. bit (g n m) + bit (g m n)) (λ m _. h n m)

-- a node with fewer on it than it has pairs leads somewhere
pub leads_away : (N : ℕ) (leads : Leads) (n : ℕ) → load N leads n < degree N leads n → (m : ℕ) × (m < N) × (leads n m ≡ true)
leads_away N leads n h = elim (some_or_all (λ m. leads n m ≡ true) (λ m. leads n m ≡ false) (λ m. cases_Bool (leads n m)) N) [
  | inl f ↦ f
  | inr all ↦
      let e = sum_cong N (λ m. bit (leads n m) + bit (leads m n)) (λ m. bit (leads m n)) (λ m l. let z : bit (leads n m) ≡ 0 = ap bit (all m l) in omega arith) in
      absurd (omega arith)
]

-- a node with something on it is led to from somewhere
led_to : (N : ℕ) (leads : Leads) (n : ℕ) → 0 < load N leads n → (m : ℕ) × (m < N) × (leads m n ≡ true)
led_to N leads n h = elim (some_or_all (λ m. leads m n ≡ true) (λ m. leads m n ≡ false) (λ m. cases_Bool (leads m n)) N) [
  | inl f ↦ f
  | inr all ↦
      let e = sum_none N (λ m. bit (leads m n)) (λ m l. ap bit (all m l)) in
      absurd (omega arith)
]

turn_crossing : (B : ℕ) (leads : Leads) (x y : ℕ) → leads x y ≡ true → Crossing B leads → Crossing B (turn x y leads)
turn_crossing B leads x y k c a b h = elim (cases_Bool (leads a b)) [
  | inl t ↦ c a b t
  | inr f ↦
      let e : a ≡ y = grind (arith, nat_tests) in
      let g : b ≡ x = grind (arith, nat_tests) in
      elim (c x y k) [
        | inl r ↦ inr (rw (sym e) at r.1, rw (sym g) at r.0)
        | inr r ↦ inl (rw (sym e) at r.1, rw (sym g) at r.0)
      ]
]

-- by how much a bus is off the lesser of its limit and its pairs
abbrev off : ℕ → Leads → (ℕ → ℕ) → ℕ → ℕ
off N leads ℓ b = (load N leads b - min (ℓ b) (degree N leads b)) + (min (ℓ b) (degree N leads b) - load N leads b)

module _ (B N : ℕ) (ℓ : ℕ → ℕ) where
  -- one load nearer to its aim, and no other changed
  nearer : (leads links : Leads) → SamePairs links leads → (b : ℕ) → b < B → ((z : ℕ) → z < B → (z ≡ b → ⊥) → load N links z ≡ load N leads z)
      → off N links ℓ b < off N leads ℓ b → sum B (off N links ℓ) < sum B (off N leads ℓ)
  nearer leads links same b lb others less = sum_lt B (off N links ℓ) (off N leads ℓ) each b lb less
    where
      each : (z : ℕ) → z < B → off N links ℓ z ≤ off N leads ℓ z
      each z lz = elim (cases_eq z b) [
        | inl e ↦ subst (λ v. off N links ℓ v ≤ off N leads ℓ v) (sym e) (omega arith)
        | inr d ↦ let p = others z lz d in let q = degree_same N links leads same z in omega arith
      ]

  -- one link turned for one bus that is off
  bus_step : (leads : Leads) → Network N leads → Crossing B leads → (b : ℕ) → b < B → (load N leads b ≡ min (ℓ b) (degree N leads b) → ⊥)
      → (x : ℕ) × (y : ℕ) × (leads x y ≡ true) × (sum B (off N (turn x y leads) ℓ) < sum B (off N leads ℓ))
  bus_step leads net cross b lb wrong =
      elim (cases_lt (load N leads b) (min (ℓ b) (degree N leads b))) [
        | inl h ↦
            let f = leads_away N leads b (omega arith) in
            (b, f.0, f.2, gains f.0 f.2 h)
        | inr h ↦
            let f = led_to N leads b (omega arith) in
            (f.0, b, f.2, loses f.0 f.2 (omega arith))
      ]
    where
      gains : (m : ℕ) → leads b m ≡ true → load N leads b < min (ℓ b) (degree N leads b) → sum B (off N (turn b m leads) ℓ) < sum B (off N leads ℓ)
      gains m k h =
          let r : B ≤ m = elim (cross b m k) [ inl r ↦ r.1 | inr r ↦ let q = r.0 in omega arith ] in
          nearer leads (turn b m leads) (turn_joins N leads net b m k) b lb
          (λ z lz d. let t = turn_load N leads net b m k z in grind (arith, nat_tests))
          (let t = turn_load N leads net b m k b in
          let q = degree_same N (turn b m leads) leads (turn_joins N leads net b m k) b in
          let l : load N (turn b m leads) b ≡ load N leads b + 1 = grind (arith, nat_tests) in
          omega arith)

      loses : (m : ℕ) → leads m b ≡ true → min (ℓ b) (degree N leads b) < load N leads b → sum B (off N (turn m b leads) ℓ) < sum B (off N leads ℓ)
      loses m k h =
          let r : B ≤ m = elim (cross m b k) [ inl r ↦ let q = r.1 in omega arith | inr r ↦ r.0 ] in
          nearer leads (turn m b leads) (turn_joins N leads net m b k) b lb
          (λ z lz d. let t = turn_load N leads net m b k z in grind (arith, nat_tests))
          (let t = turn_load N leads net m b k b in
          let q = degree_same N (turn m b leads) leads (turn_joins N leads net m b k) b in
          let l : load N (turn m b leads) b + 1 ≡ load N leads b = grind (arith, nat_tests) in
          omega arith)

  pub buses_settled : (fuel : ℕ) (leads : Leads) → Network N leads → Crossing B leads → sum B (off N leads ℓ) < fuel
      → (links : Leads) × Network N links × SamePairs links leads × ((b : ℕ) → b < B → load N links b ≡ min (ℓ b) (degree N links b))
  buses_settled zero leads net cross f = absurd (omega arith)
  buses_settled (suc fuel) leads net cross f =
      elim (some_or_all (λ b. (b < B) × (load N leads b ≡ min (ℓ b) (degree N leads b) → ⊥)) (λ b. b < B → load N leads b ≡ min (ℓ b) (degree N leads b)) look B) [
        | inr all ↦ (leads, net, (λ a b. refl), λ b lb. all b lb lb)
        | inl w ↦
            let s = bus_step leads net cross w.0 w.1 w.2.1 in
            let x = s.0 in
            let y = s.1 in
            let k = s.2 in
            let less = s.3 in
            let again = buses_settled fuel (turn x y leads) (turn_net N leads net x y k) (turn_crossing B leads x y k cross) (omega arith) in
            (again.0, again.1, (λ a b. again.2 a b ∙ turn_joins N leads net x y k a b), again.3)
      ]
    where
      look : (b : ℕ) → ((b < B) × (load N leads b ≡ min (ℓ b) (degree N leads b) → ⊥)) ⊎ (b < B → load N leads b ≡ min (ℓ b) (degree N leads b))
      look b = elim (cases_lt b B) [
        | inr h ↦ inr (λ l. absurd (omega arith))
        | inl l ↦ elim (cases_eq (load N leads b) (min (ℓ b) (degree N leads b))) [ inl e ↦ inr (λ _. e) | inr d ↦ inl (l, d) ]
      ]

module _ (B N L : ℕ) (ℓ : ℕ → ℕ → ℕ) (limits : Levels B L ℓ) where
  abbrev Buses : Leads → Type 0
  Buses leads = (b : ℕ) → b < B → load N leads b ≡ min (ℓ 0 b) (degree N leads b)

  -- with the buses right, an uneven chain leads from a post to a post: the buses stay right
  buses_stay : (leads : Leads) → Network N leads → Buses leads → (a : ℕ) → a < L → (u : Uneven N leads (ℓ a)) → Buses (turned u.start u.rest leads)
  buses_stay leads net buses a la u b lb =
      let s = u.start in
      let vs = u.rest in
      let under = u.under in
      let above = u.above in
      let e = buses b lb in
      let f = buses s in
      let g = buses (end s vs) in
      let q = degree_turned N s vs leads net u.chain b in
      let r = chain_load N s vs leads net u.chain b in
      let bs : b ≡ s → ⊥ = λ i.
      let sb : s < B = omega arith in
      let f1 = f sb in
      let l = limits.of_bus a s la sb in
      let j = stays (chain_walk leads s vs u.chain) (λ m k. let v = away N leads s m (net.within s m k).1 k in omega arith) in
      let j1 = ap (ℓ a) j in
      let j2 = ap (load N leads) j in omega arith in
      let be : b ≡ end s vs → ⊥ = λ i.
      let eb : end s vs < B = omega arith in
      let g1 = g eb in
      let l = limits.of_bus a (end s vs) la eb in omega arith in
      let same : load N (turned s vs leads) b ≡ load N leads b = grind (arith, nat_tests) in
      omega arith

  posts_settled : (fuel : ℕ) (leads : Leads) → Network N leads → Buses leads → sum L (λ c. over N (load N leads) (ℓ c)) < fuel
      → (links : Leads) × Network N links × SamePairs links leads × EvenNetwork B N L ℓ links
  posts_settled zero leads net buses f = absurd (omega arith)
  posts_settled (suc fuel) leads net buses f = elim (all_tight_or_uneven N L leads ℓ net) [
    | inr t ↦ (leads, net, (λ a b. refl), tight_even B N L ℓ limits leads buses t)
    | inl u ↦
        let a = u.0 in
        let v = u.2 in
        let s = settling N leads net v.start v.rest v.chain v.start_in v.end_in ℓ L limits.rising a u.1 v.under v.above in
        let n = chain_net N v.start v.rest leads net v.chain in
        let again = posts_settled fuel (turned v.start v.rest leads) n (buses_stay leads net buses a u.1 v) (omega arith) in
        (again.0, again.1, (λ a b. again.2 a b ∙ chain_joins N v.start v.rest leads net v.chain a b), again.3)
  ]

  -- the same pairs can be given even sides
  pub even_exists : (leads : Leads) → Network N leads → Crossing B leads → (links : Leads) × Network N links × SamePairs links leads × EvenNetwork B N L ℓ links
  even_exists leads net cross =
      let b = buses_settled B N (ℓ 0) (suc (sum B (off N leads (ℓ 0)))) leads net cross (omega arith) in
      let p = posts_settled (suc (sum L (λ c. over N (load N b.0) (ℓ c)))) b.0 b.1 b.3 (omega arith) in
      (p.0, p.1, (λ x y. p.2 x y ∙ b.2 x y), p.3)

-- A pair can always be added or dropped with one chain turned, and the sides are even again.
use Rattle.std.proofs.Common.{◌≡◌, ℕ, zero, suc, ◌-◌, ◌<◌, ◌≤◌, true, false, ◌&&◌, eqb, leb, ◌⊎◌, List, refl, subst, inl, inr, arith}
use Rattle.std.proofs.lemmas.Bool.{cases_Bool, cases_lt, cases_eq, both_ways, eqb-true, eq-eqb, leb-true, le-leb, and_parts, and_from}
use Rattle.std.proofs.lemmas.Bool.Decides.{nat_tests}
use Rattle.blocks.specs.Sets.{Set}
use Rattle.blocks.specs.Networks.{Leads, Network, load, degree, Walk, here, step}
use Rattle.blocks.specs.Chains.{Chain, end, turned, with_lead, without_lead}
use Rattle.blocks.specs.Sides.{EvenNetwork, Levels, Crossing}
use Rattle.blocks.proofs.Chains.{walk_chain}
use Rattle.blocks.proofs.Reaching.{ReachTo, reach_to, to_walk}
use Rattle.blocks.proofs.Changes.{added_net, removed_net}
use Rattle.blocks.proofs.Evenness.{even_added_to_post, even_dropped}
use Rattle.blocks.proofs.Choosing.{first_under, first_le, chosen}
use Rattle.blocks.proofs.EvenExists.{leads_away}

-- one of a set with the least key
pub least : (C : Set) (key : ℕ → ℕ) (n : ℕ) → ((s : ℕ) × (s < n) × (C s ≡ true) × ((k : ℕ) → k < n → C k ≡ true → key s ≤ key k)) ⊎ ((k : ℕ) → k < n → C k ≡ false)
least C key zero = inr (λ k l. absurd (omega arith))
least C key (suc n) = elim (cases_Bool (C n)) [
  | inr f ↦ elim (least C key n) [
    | inl s ↦ let l = s.1 in inl (s.0, omega arith, s.2, λ k h m. elim (cases_eq k n) [ inl e ↦ absurd (both_ways (C n) f (subst (λ v. C v ≡ true) e m)) | inr d ↦ s.3 k (omega arith) m ])
    | inr all ↦ inr (λ k h. elim (cases_eq k n) [ inl e ↦ rw e f | inr d ↦ all k (omega arith) ])
  ]
  | inl t ↦ elim (least C key n) [
    | inr all ↦ inl (n, omega arith, t, λ k h m. elim (cases_eq k n) [ inl e ↦ rw e (omega arith) | inr d ↦ absurd (both_ways (C k) (all k (omega arith)) m) ])
    | inl s ↦ elim (cases_lt (key n) (key s.0)) [
      | inl less ↦ inl (n, omega arith, t, λ k h m. elim (cases_eq k n) [ inl e ↦ rw e (omega arith) | inr d ↦ let q = s.3 k (omega arith) m in omega arith ])
      | inr more ↦ let l = s.1 in inl (s.0, omega arith, s.2, λ k h m. elim (cases_eq k n) [ inl e ↦ rw e more | inr d ↦ s.3 k (omega arith) m ])
    ]
  ]
]

-- the network with every link turned
abbrev reversed : Leads → Leads
reversed leads a b = leads b a

walk_join : {leads : Leads} {x y z : ℕ} → Walk leads x y → Walk leads y z → Walk leads x z
walk_join here v = v
walk_join (step k w) v = step k (walk_join w v)

walk_back : (leads : Leads) {x y : ℕ} → Walk (reversed leads) x y → Walk leads y x
walk_back leads here = here
walk_back leads (step k w) = walk_join (walk_back leads w) (step k here)

walk_forth : (leads : Leads) {x y : ℕ} → Walk leads x y → Walk (reversed leads) y x
walk_forth leads here = here
walk_forth leads (step k w) = walk_join (walk_forth leads w) (step k here)

reversed_net : (N : ℕ) (leads : Leads) → Network N leads → Network N (reversed leads)
reversed_net N leads net = record { within = λ a b k. ((net.within b a k).1, (net.within b a k).0); one_way = λ a b k h. net.one_way b a k h }

module _ (B N L : ℕ) (ℓ : ℕ → ℕ → ℕ) (limits : Levels B L ℓ) (leads : Leads) (net : Network N leads) (even : EvenNetwork B N L ℓ leads) where
  -- the post carries the new pair: some chain to it, turned, makes the sides even
  pub addition : (b p : ℕ) → b < B → B ≤ N → B ≤ p → p < N → leads b p ≡ false → leads p b ≡ false → ℓ 0 b ≤ load N leads b
      → (s : ℕ) × (vs : List ℕ) × (B ≤ s) × Chain (with_lead b p leads) s vs × (end s vs ≡ p) × EvenNetwork B N L ℓ (turned s vs (with_lead b p leads))
  addition b p lb bn bp lp fresh fresh-back full =
      elim (least C key N) [
        | inr none ↦ absurd (both_ways (C p) (none p lp) (and_from (leb B p) (D p) (le-leb B p bp) (r.holds p lp (eq-eqb p p refl))))
        | inl best ↦
            let s = best.0 in
            let parts = and_parts (leb B s) (D s) best.2 in
            let w = r.from s best.1 parts.1 in
            let w2 : Walk (with_lead b p leads) s p = subst (λ z. Walk (with_lead b p leads) s z) (eqb-true w.0 p w.2) w.3 in
            let c = walk_chain w2 in (
              s,
              c.0,
              leb-true B s parts.0,
              c.1,
              c.2,
              even_added_to_post B N L ℓ limits leads net even b p lb bn bp lp fresh fresh-back full s (leb-true B s parts.0) best.1 c.0 c.1 c.2
                  (λ n a bn ln la v under.
                  chosen L (λ a. ℓ a s) (λ a. ℓ a n) (λ a c h g. limits.rising a c s h g) (λ a c h g. limits.rising a c n h g) (load N leads s) (load N leads n)
                  (best.3 n ln (and_from (leb B n) (D n) (le-leb B n bn) (to_walk N (with_lead b p leads) T plus D r n p v (r.holds p lp (eq-eqb p p refl))))) a la under),
            )
      ]
    where
      plus : Network N (with_lead b p leads)
      plus = added_net N leads b p (omega arith) lp net fresh-back (omega arith)

      T : Set
      T n = eqb n p

      D : Set
      D = (reach_to N (with_lead b p leads) T plus).0

      r : ReachTo N (with_lead b p leads) T D
      r = (reach_to N (with_lead b p leads) T plus).1

      C : Set
      C n = leb B n && D n

      key : ℕ → ℕ
      key n = first_under L (λ a. ℓ a n) (load N leads n)

  -- a pair dropped that a post carried, or a bus with more pairs than its limit: some chain from there to a post, turned, makes the sides even
  pub dropping : Crossing B leads → (x y : ℕ) → leads x y ≡ true → (y < B → ℓ 0 y < degree N leads y)
      → (vs : List ℕ) × (B ≤ end y vs) × Chain (without_lead x y leads) y vs × EvenNetwork B N L ℓ (turned y vs (without_lead x y leads))
  dropping cross x y link heavy =
      elim (least C key N) [
        | inr none ↦ absurd (let q = some in both_ways (C q.0) (none q.0 q.1) q.2)
        | inl best ↦
            let t = best.0 in
            let parts = and_parts (leb B t) (D t) best.2 in
            let w = r.from t best.1 parts.1 in
            let w2 : Walk minus y t = subst (λ z. Walk minus z t) (eqb-true w.0 y w.2) (walk_back minus w.3) in
            let c = walk_chain w2 in
            let e = c.2 in
            let post : B ≤ end y c.0 = rw e (leb-true B t parts.0) in (
              c.0,
              post,
              c.1,
              even_dropped B N L ℓ limits leads net even x y link heavy c.0 c.1 post (rw e best.1)
                  (λ n a bn ln la v above. rw e (elim (cases_lt (ℓ a t) (load N leads t)) [
                    | inl h ↦ h
                    | inr h ↦
                        let less = chosen L (λ a. suc (ℓ a n)) (λ a. suc (ℓ a t)) (λ a c h g. let q = limits.rising a c n h g in omega arith) (λ a c h g. let q = limits.rising a c t h g in omega arith)
                        (load N leads n) (load N leads t)
                        (let k = best.3 n ln (and_from (leb B n) (D n) (le-leb B n bn) (to_walk N (reversed minus) T back D r n y (walk_forth minus v) (r.holds y ly (eq-eqb y y refl)))) in
                        let p = first_le (λ a. suc (ℓ a n)) (load N leads n) L in
                        let q = first_le (λ a. suc (ℓ a t)) (load N leads t) L in omega arith)
                        a la (omega arith) in
                        absurd (omega arith)
                  ])),
            )
      ]
    where
      ly : y < N
      ly = (net.within x y link).1

      minus : Leads
      minus = without_lead x y leads

      back : Network N (reversed minus)
      back = reversed_net N minus (removed_net N leads x y (net.within x y link).0 ly net)

      T : Set
      T n = eqb n y

      D : Set
      D = (reach_to N (reversed minus) T back).0

      r : ReachTo N (reversed minus) T D
      r = (reach_to N (reversed minus) T back).1

      C : Set
      C n = leb B n && D n

      -- the more levels at which it is over, the smaller
      key : ℕ → ℕ
      key n = L - first_under L (λ a. suc (ℓ a n)) (load N leads n)

      some : (n : ℕ) × (n < N) × (C n ≡ true)
      some = elim (cases_lt y B) [
        | inr h ↦ (y, ly, and_from (leb B y) (D y) (le-leb B y h) (r.holds y ly (eq-eqb y y refl)))
        | inl h ↦
            let e = even.bus y h in
            let k = heavy h in
            let m = leads_away N leads y (omega arith) in
            let q = m.0 in
            let l = m.2 in
            let o : x ≡ y → ⊥ = λ e. net.one_way x y link (cc) in
            let bq : B ≤ q = elim (cross y q l) [ inl z ↦ z.1 | inr z ↦ let f = z.0 in omega arith ] in
            (q, m.1, and_from (leb B q) (D q) (le-leb B q bq) (r.back q y (grind (arith, nat_tests)) (r.holds y ly (eq-eqb y y refl))))
      ]

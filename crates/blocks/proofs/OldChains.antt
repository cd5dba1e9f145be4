-- What an addition turns of the sides as they stood: one chain of them.
use Rattle.std.proofs.Common.{◌≡◌, ℕ, true, false, ◌&&◌, ◌||◌, eqb, ◌⊎◌, List, [], ◌∷◌, ◌++◌, refl, ap, ◌∙◌, subst, inl, inr, arith}
use Rattle.std.proofs.lemmas.Bool.{both_ways}
use Rattle.std.proofs.lemmas.Bool.Decides.{nat_tests}
use Rattle.blocks.specs.Networks.{Leads}
use Rattle.blocks.specs.Chains.{Chain, end, next_in, turned, with_lead, without_lead}
use Rattle.blocks.proofs.Chains.{chain_exactly}
use Rattle.blocks.proofs.Choosing.{added_chain}

-- what follows in a chain is a link
pub linked_leads : (leads : Leads) (s : ℕ) (vs : List ℕ) → Chain leads s vs → (a b : ℕ) → next_in s vs a b ≡ true → leads a b ≡ true
linked_leads leads s [] c a b h = absurd (both_ways false refl h)
linked_leads leads s (v ∷ vs) c a b h =
    let k = c.0 in
    let r = linked_leads leads v vs c.2 a b in grind (arith, nat_tests)

linked_more : (s : ℕ) (vs : List ℕ) (y a b : ℕ) → next_in s (vs ++ (y ∷ [])) a b ≡ (next_in s vs a b || (eqb a (end s vs) && eqb b y))
linked_more s [] y a b = grind (arith, nat_tests)
linked_more s (v ∷ vs) y a b = let r = linked_more v vs y a b in grind arith

chain_wider : (leads : Leads) (x y s : ℕ) (vs : List ℕ) → Chain leads s vs → Chain (with_lead x y leads) s vs
chain_wider leads x y s [] c = tt
chain_wider leads x y s (v ∷ vs) c = let k = c.0 in (grind arith, c.1, chain_wider leads x y v vs c.2)

pub chain_narrower : (leads : Leads) (x y s : ℕ) (vs : List ℕ) → Chain (without_lead x y leads) s vs → Chain leads s vs
chain_narrower leads x y s [] c = tt
chain_narrower leads x y s (v ∷ vs) c = let k = c.0 in (grind arith, c.1, chain_narrower leads x y v vs c.2)

module _ (leads : Leads) (x y s : ℕ) (fresh : leads x y ≡ false) (fresh-back : leads y x ≡ false) (apart : x ≡ y → ⊥) where
  -- the chain does not use the new link: it is a chain as the sides stood, and y carries the new pair
  old_chain : (vs : List ℕ) → Chain leads s vs → (a b : ℕ) → turned s vs (with_lead x y leads) a b ≡ with_lead x y (turned s vs leads) a b
  old_chain vs c a b =
      let p = chain_exactly s vs (with_lead x y leads) (chain_wider leads x y s vs c) a b in
      let q = chain_exactly s vs leads c a b in
      let r = linked_leads leads s vs c x y in
      let t = linked_leads leads s vs c y x in
      grind (arith, nat_tests)

  -- it ends in the new link: up to there it is a chain as the sides stood, and x carries the new pair
  old_front : (ws : List ℕ) → Chain (with_lead x y leads) s (ws ++ (y ∷ [])) → Chain leads s ws → end s ws ≡ x
      → (a b : ℕ) → turned s (ws ++ (y ∷ [])) (with_lead x y leads) a b ≡ with_lead y x (turned s ws leads) a b
  old_front ws d c e a b =
      let p = chain_exactly s (ws ++ (y ∷ [])) (with_lead x y leads) d a b in
      let q = chain_exactly s ws leads c a b in
      let r = linked_leads leads s ws c x y in
      let t = linked_leads leads s ws c y x in
      let u = linked_more s ws y a b in
      let v = linked_more s ws y b a in
      grind (arith, nat_tests)

  -- in both cases one chain of the sides as they stood is turned, and the new pair stands on y or on x
  pub one_old_chain : (vs : List ℕ) → Chain (with_lead x y leads) s vs → end s vs ≡ y
      → (ws : List ℕ) × Chain leads s ws
      × (((end s ws ≡ y) × ((a b : ℕ) → turned s vs (with_lead x y leads) a b ≡ with_lead x y (turned s ws leads) a b))
      ⊎ ((end s ws ≡ x) × ((a b : ℕ) → turned s vs (with_lead x y leads) a b ≡ with_lead y x (turned s ws leads) a b)))
  one_old_chain vs c e = elim (added_chain leads x y s vs c e) [
    | inl d ↦ (vs, d, inl (e, old_chain vs d))
    | inr d ↦
        let ws = d.0 in (
          ws,
          d.2,
          inr (
            d.3,
            λ a b.
                ap (λ l. turned s l (with_lead x y leads) a b) d.1 ∙ old_front ws (subst (Chain (with_lead x y leads) s) d.1 c) d.2 d.3 a b,
          ),
        )
  ]

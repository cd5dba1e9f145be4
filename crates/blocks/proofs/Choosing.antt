-- The level at which a node is first under its limit, and what a choice by it gives.
use Rattle.std.proofs.Common.{◌≡◌, ℕ, zero, suc, ◌<◌, ◌≤◌, true, leb, ◌⊎◌, List, [], ◌∷◌, ◌++◌, sym, refl, ap, ◌∙◌, subst, inl, inr, arith}
use Rattle.std.proofs.lemmas.Bool.{cases_Bool, cases_lt, cases_eq}
use Rattle.std.proofs.lemmas.Bool.Decides.{nat_tests}
use Rattle.blocks.specs.Sums.{sum, bit}
use Rattle.blocks.specs.Networks.{Leads}
use Rattle.blocks.specs.Chains.{NoneOf, Chain, end, with_lead}

-- the number of levels below L at which a load m is at the limit or over: the first at which it is under
abbrev pub first_under : ℕ → (ℕ → ℕ) → ℕ → ℕ
first_under L ℓ m = sum L (λ a. bit (leb (ℓ a) m))

pub first_le : (ℓ : ℕ → ℕ) (m L : ℕ) → first_under L ℓ m ≤ L
unfolding sum
first_le ℓ m zero = omega arith
first_le ℓ m (suc L) = let r = first_le ℓ m L in grind (arith, nat_tests)

all_before : (ℓ : ℕ → ℕ) (m L : ℕ) → ((a : ℕ) → a < L → ℓ a ≤ m) → first_under L ℓ m ≡ L
unfolding sum
all_before ℓ m zero h = refl
all_before ℓ m (suc L) h = let r = all_before ℓ m L (λ a l. h a (omega arith)) in let q = h L (omega arith) in grind (arith, nat_tests)

abbrev pub Climbs : ℕ → (ℕ → ℕ) → Type 0
Climbs L ℓ = (a c : ℕ) → a ≤ c → c < L → ℓ a ≤ ℓ c

-- under from there on, and not before
pub under_after : (ℓ : ℕ → ℕ) (m L : ℕ) → Climbs L ℓ → (a : ℕ) → a < L → m < ℓ a → first_under L ℓ m ≤ a
unfolding sum
under_after ℓ m zero rising a l h = omega arith
under_after ℓ m (suc L) rising a l h = elim (cases_eq a L) [
  | inl e ↦ let r = first_le ℓ m L in let q = ap ℓ e in grind (arith, nat_tests)
  | inr d ↦
      let r = under_after ℓ m L (λ a c p q. rising a c p (omega arith)) a (omega arith) h in
      let q = rising a L (omega arith) (omega arith) in grind (arith, nat_tests)
]

pub after_under : (ℓ : ℕ → ℕ) (m L : ℕ) → Climbs L ℓ → (a : ℕ) → a < L → first_under L ℓ m ≤ a → m < ℓ a
unfolding sum
after_under ℓ m zero rising a l h = omega arith
after_under ℓ m (suc L) rising a l h = elim (cases_lt m (ℓ a)) [
  | inl u ↦ u
  | inr f ↦ elim (cases_eq a L) [
    | inl e ↦
        let q = ap ℓ e in
        let r = all_before ℓ m L (λ c k. let s = rising c a (omega arith) l in omega arith) in absurd (grind (arith, nat_tests))
    | inr d ↦ after_under ℓ m L (λ a c p q. rising a c p (omega arith)) a (omega arith) (omega arith)
  ]
]

-- the choice of section 6 from a least first level
pub chosen : (L : ℕ) (ℓ k : ℕ → ℕ) → Climbs L ℓ → Climbs L k → (m n : ℕ)
    → first_under L ℓ m ≤ first_under L k n → (a : ℕ) → a < L → n < k a → m < ℓ a
chosen L ℓ k p q m n h a l u = let r = under_after k n L q a l u in after_under ℓ m L p a l (omega arith)

absent_end : (v w : ℕ) (vs : List ℕ) → NoneOf v (w ∷ vs) → v ≡ end w vs → ⊥
absent_end v w [] f = f.0
absent_end v w (u ∷ vs) f = absent_end v u vs f.1

absent_front : (s : ℕ) (ws us : List ℕ) → NoneOf s (ws ++ us) → NoneOf s ws
absent_front s [] us f = tt
absent_front s (w ∷ ws) us f = (f.0, absent_front s ws us f.1)

-- a chain that ends where the new link does: an old chain, or an old chain and then the new link
pub added_chain : (leads : Leads) (x y s : ℕ) (vs : List ℕ) → Chain (with_lead x y leads) s vs → end s vs ≡ y
    → Chain leads s vs ⊎ ((ws : List ℕ) × (vs ≡ ws ++ (y ∷ [])) × Chain leads s ws × (end s ws ≡ x))
added_chain leads x y s [] c e = inl tt
added_chain leads x y s (v ∷ []) c e = let k = c.0 in elim (cases_Bool (leads s v)) [
  | inl t ↦ inl (t, c.1, tt)
  | inr f ↦ inr ([], ap (λ z. z ∷ []) e, tt, grind (arith, nat_tests))
]
added_chain leads x y s (v ∷ (w ∷ vs)) c e =
    let d : v ≡ y → ⊥ = λ i. absent_end v w vs c.2.1 (i ∙ sym e) in
    let k0 = c.0 in
    let k : leads s v ≡ true = grind (arith, nat_tests) in
    elim (added_chain leads x y v (w ∷ vs) c.2 e) [
      | inl r ↦ inl (k, c.1, r)
      | inr r ↦ inr (v ∷ r.0, ap (λ l. v ∷ l) r.1, (k, (c.1.0, absent_front s r.0 (y ∷ []) (subst (NoneOf s) r.1 c.1.1)), r.2), r.3)
    ]

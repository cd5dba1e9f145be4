-- A search keeps the nodes it finds in a row, and for each the place it was found from: that gives chains.
use Rattle.std.proofs.Common.{◌≡◌, ℕ, zero, suc, ◌<◌, ◌≤◌, true, ◌⊎◌, List, [], ◌∷◌, ◌++◌, sym, refl, inl, inr, arith}
use Rattle.blocks.specs.Networks.{Leads}
use Rattle.blocks.specs.Chains.{NoneOf, Chain, end}

absent_snoc : (u : ℕ) (vs : List ℕ) (z : ℕ) → NoneOf u vs → (u ≡ z → ⊥) → NoneOf u (vs ++ (z ∷ []))
absent_snoc u [] z f d = (d, tt)
absent_snoc u (v ∷ vs) z f d = (f.0, absent_snoc u vs z f.1 d)

end_snoc : (s : ℕ) (vs : List ℕ) (z : ℕ) → end s (vs ++ (z ∷ [])) ≡ z
end_snoc s [] z = refl
end_snoc s (v ∷ vs) z = end_snoc v vs z

pub chain_snoc : (leads : Leads) (s : ℕ) (vs : List ℕ) (z : ℕ) → Chain leads s vs → leads (end s vs) z ≡ true → NoneOf z (s ∷ vs) → Chain leads s (vs ++ (z ∷ []))
chain_snoc leads s [] z c k f = (k, ((λ e. f.0 (sym e)), tt), tt)
chain_snoc leads s (v ∷ vs) z c k f =
    (c.0, absent_snoc s (v ∷ vs) z c.1 (λ e. f.0 (sym e)), chain_snoc leads v vs z c.2 k f.1)

-- node i is the i-th found of n, and from i is the place that it was found from, or i itself at a start
pub record Found (leads : Leads) (n : ℕ) (node from : ℕ → ℕ) : Type 0 where
  pub once : (i j : ℕ) → i < n → j < n → node i ≡ node j → i ≡ j
  pub links : (i : ℕ) → i < n → (from i ≡ i) ⊎ ((from i < i) × (leads (node i) (node (from i)) ≡ true))

module _ (leads : Leads) (n : ℕ) (node from : ℕ → ℕ) (found : Found leads n node from) where
  -- a chain from the i-th to a start; no node found later is in it
  to_start : (fuel i : ℕ) → i < fuel → i < n
      → (vs : List ℕ) × (r : ℕ) × Chain leads (node i) vs × (r ≤ i) × (from r ≡ r) × (end (node i) vs ≡ node r) × ((j : ℕ) → i < j → j < n → NoneOf (node j) (node i ∷ vs))
  to_start zero i f l = absurd (omega arith)
  to_start (suc fuel) i f l = elim (found.links i l) [
    | inl e ↦ ([], i, tt, omega arith, e, refl, λ j h k. ((λ q. let m = found.once j i k l q in omega arith), tt))
    | inr s ↦
        let h = s.0 in
        let c = to_start fuel (from i) (omega arith) (omega arith) in
        let o = c.3 in (
          node (from i) ∷ c.0,
          c.1,
          (s.1, c.6 i h l, c.2),
          omega arith,
          c.4,
          c.5,
          λ j g k. ((λ q. let m = found.once j i k l q in omega arith), c.6 j (omega arith) k),
        )
  ]

  pub chain_to_start : (i : ℕ) → i < n → (vs : List ℕ) × (r : ℕ) × Chain leads (node i) vs × (r ≤ i) × (from r ≡ r) × (end (node i) vs ≡ node r)
  chain_to_start i l = let c = to_start (suc i) i (omega arith) l in (c.0, c.1, c.2, c.3, c.4, c.5)

-- the same where links lead from what was found earlier to what was found later: a chain from a start to the i-th
pub record Followed (leads : Leads) (n : ℕ) (node from : ℕ → ℕ) : Type 0 where
  pub once : (i j : ℕ) → i < n → j < n → node i ≡ node j → i ≡ j
  pub links : (i : ℕ) → i < n → (from i ≡ i) ⊎ ((from i < i) × (leads (node (from i)) (node i) ≡ true))

module _ (leads : Leads) (n : ℕ) (node from : ℕ → ℕ) (found : Followed leads n node from) where
  from_start : (fuel i : ℕ) → i < fuel → i < n
      → (vs : List ℕ) × (r : ℕ) × Chain leads (node r) vs × (r ≤ i) × (from r ≡ r) × (end (node r) vs ≡ node i) × ((j : ℕ) → i < j → j < n → NoneOf (node j) (node r ∷ vs))
  from_start zero i f l = absurd (omega arith)
  from_start (suc fuel) i f l = elim (found.links i l) [
    | inl e ↦ ([], i, tt, omega arith, e, refl, λ j h k. ((λ q. let m = found.once j i k l q in omega arith), tt))
    | inr s ↦
        let h = s.0 in
        let c = from_start fuel (from i) (omega arith) (omega arith) in
        let o = c.3 in (
          c.0 ++ (node i ∷ []),
          c.1,
          chain_snoc leads (node c.1) c.0 (node i) c.2 (rw c.5 s.1) (c.6 i h l),
          omega arith,
          c.4,
          end_snoc (node c.1) c.0 (node i),
          λ j g k. absent_snoc (node j) (node c.1 ∷ c.0) (node i) (c.6 j (omega arith) k) (λ q. let m = found.once j i k l q in omega arith),
        )
  ]

  pub chain_from_start : (i : ℕ) → i < n → (vs : List ℕ) × (r : ℕ) × Chain leads (node r) vs × (r ≤ i) × (from r ≡ r) × (end (node r) vs ≡ node i)
  chain_from_start i l = let c = from_start (suc i) i (omega arith) l in (c.0, c.1, c.2, c.3, c.4, c.5)

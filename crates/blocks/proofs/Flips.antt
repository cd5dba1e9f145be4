-- The pairs of a chain turned, as sides: what the network of the yard becomes, and one pair at a time.
use Rattle.std.proofs.Common.{◌≡◌, ℕ, ◌+◌, ◌-◌, ◌<◌, ◌≤◌, Bool, true, false, cond, not, ◌&&◌, ◌||◌, List, sym, ap, ◌∙◌, inl, inr, arith}
use mathlib.Core.Path.{fun_ext}
use Rattle.std.proofs.lemmas.Bool.{cases_lt}
use Rattle.std.proofs.lemmas.Bool.Decides.{nat_tests}
use Rattle.blocks.specs.Chains.{Chain, next_in, turned}
use Rattle.blocks.specs.Sides.{Sides, pointing, flipped}
use Rattle.blocks.proofs.Chains.{chain_exactly}
use Rattle.blocks.proofs.OldChains.{linked_leads}

-- the network, by kinds of nodes
module _ (B : ℕ) (paired : ℕ → ℕ → Bool) (s : Sides) (a c : ℕ) where
  pub low : a < B → c < B → pointing B paired s a c ≡ false
  low h k = grind (arith, nat_tests)

  pub high : B ≤ a → B ≤ c → pointing B paired s a c ≡ false
  high h k = grind (arith, nat_tests)

  pub from_bus : a < B → B ≤ c → pointing B paired s a c ≡ (paired a (c - B) && s a (c - B))
  from_bus h k = grind (arith, nat_tests)

  pub from_post : B ≤ a → c < B → pointing B paired s a c ≡ (paired c (a - B) && not (s c (a - B)))
  from_post h k = grind (arith, nat_tests)

module _ (B : ℕ) (paired : ℕ → ℕ → Bool) (s : Sides) (x : ℕ) (vs : List ℕ) (chain : Chain (pointing B paired s) x vs) where
  -- from a bus, from a post
  bus_flip : (n m t p f : Bool) → (n ≡ true → (p && f) ≡ true) → (m ≡ true → (p && not f) ≡ true) → t ≡ cond n false (cond m true (p && f))
      → (p && cond (n || m) (not f) f) ≡ t
  bus_flip n m t p f h k e = grind arith

  post_flip : (n m t p f : Bool) → (n ≡ true → (p && not f) ≡ true) → (m ≡ true → (p && f) ≡ true) → t ≡ cond n false (cond m true (p && not f))
      → (p && not (cond (m || n) (not f) f)) ≡ t
  post_flip n m t p f h k e = grind arith

  neither : (n m t : Bool) → (n ≡ true → false ≡ true) → (m ≡ true → false ≡ true) → t ≡ cond n false (cond m true false) → false ≡ t
  neither n m t h k e = grind arith

  pub flip_at : (a c : ℕ) → pointing B paired (flipped B x vs s) a c ≡ turned x vs (pointing B paired s) a c
  flip_at a c =
      let t = chain_exactly x vs (pointing B paired s) chain a c in
      let n = linked_leads (pointing B paired s) x vs chain a c in
      let m = linked_leads (pointing B paired s) x vs chain c a in
      elim (cases_lt a B) [
        | inl ab ↦ elim (cases_lt c B) [
          | inl cb ↦
              let p = low B paired s a c ab cb in
              let q = low B paired s c a cb ab in
              low B paired (flipped B x vs s) a c ab cb ∙ neither _ _ _ (λ h. sym p ∙ n h) (λ h. sym q ∙ m h) (t ∙ ap (λ z. cond (next_in x vs a c) false (cond (next_in x vs c a) true z)) p)
          | inr cb ↦
              let e : B + (c - B) ≡ c = omega arith in
              let p = from_bus B paired s a c ab cb in
              let q = from_post B paired s c a cb ab in
              from_bus B paired (flipped B x vs s) a c ab cb
              ∙ ap (λ z. paired a (c - B) && cond (next_in x vs a z || next_in x vs z a) (not (s a (c - B))) (s a (c - B))) e
              ∙ bus_flip _ _ _ _ _ (λ h. sym p ∙ n h) (λ h. sym q ∙ m h) (t ∙ ap (λ z. cond (next_in x vs a c) false (cond (next_in x vs c a) true z)) p)
        ]
        | inr ab ↦ elim (cases_lt c B) [
          | inl cb ↦
              let e : B + (a - B) ≡ a = omega arith in
              let p = from_post B paired s a c ab cb in
              let q = from_bus B paired s c a cb ab in
              from_post B paired (flipped B x vs s) a c ab cb
              ∙ ap (λ z. paired c (a - B) && not (cond (next_in x vs c z || next_in x vs z c) (not (s c (a - B))) (s c (a - B)))) e
              ∙ post_flip _ _ _ _ _ (λ h. sym p ∙ n h) (λ h. sym q ∙ m h) (t ∙ ap (λ z. cond (next_in x vs a c) false (cond (next_in x vs c a) true z)) p)
          | inr cb ↦
              let p = high B paired s a c ab cb in
              let q = high B paired s c a cb ab in
              high B paired (flipped B x vs s) a c ab cb ∙ neither _ _ _ (λ h. sym p ∙ n h) (λ h. sym q ∙ m h) (t ∙ ap (λ z. cond (next_in x vs a c) false (cond (next_in x vs c a) true z)) p)
        ]
      ]

  pub flip_turns : pointing B paired (flipped B x vs s) ≡ turned x vs (pointing B paired s)
  flip_turns = fun_ext (λ a. fun_ext (λ c. flip_at a c))

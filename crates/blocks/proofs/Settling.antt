-- Settling ends: a level is tight, or a chain leads from a node under its limit to one over it.
use Rattle.std.proofs.Common.{◌≡◌, ℕ, zero, suc, ◌+◌, ◌<◌, ◌≤◌, true, ◌⊎◌, List, refl, ◌∙◌, inl, inr, arith}
use Rattle.std.proofs.lemmas.Bool.{cases_Bool, cases_lt, both_ways}
use Rattle.blocks.specs.Sums.{sum, bit}
use Rattle.blocks.specs.Sets.{Set}
use Rattle.blocks.specs.Networks.{Leads, Network, load, over, Walk, here, step, Tight, Reach}
use Rattle.blocks.specs.Chains.{Chain, end, turned}
use Rattle.blocks.proofs.Chains.{walk_chain, chain_net, chain_joins}
use Rattle.blocks.proofs.Reaching.{some_or_all, reach_set}
use Rattle.blocks.proofs.Changes.{settling}

pub record Uneven (N : ℕ) (leads : Leads) (ℓ : ℕ → ℕ) : Type 0 where
  pub start : ℕ
  pub rest : List ℕ
  pub start_in : start < N
  pub end_in : end start rest < N
  pub chain : Chain leads start rest
  pub under : load N leads start < ℓ start
  pub above : ℓ (end start rest) < load N leads (end start rest)

pub tight_or_uneven : (N : ℕ) (leads : Leads) (ℓ : ℕ → ℕ) → Network N leads → Uneven N leads ℓ ⊎ Tight N leads ℓ
tight_or_uneven N leads ℓ net = elim (some_or_all (λ u. (D u ≡ true) × (load N leads u < ℓ u)) (λ u. D u ≡ true → ℓ u ≤ load N leads u) look N) [
  | inl f ↦ inl (found f)
  | inr all ↦ inr (λ u o lu lo under above w. let m = all u lu (walked u o w (r.over_in o lo above)) in omega arith)
]
  where
    D : Set
    D = (reach_set N leads ℓ net).0

    r : Reach N leads ℓ D
    r = (reach_set N leads ℓ net).1

    look : (u : ℕ) → ((D u ≡ true) × (load N leads u < ℓ u)) ⊎ (D u ≡ true → ℓ u ≤ load N leads u)
    look u = elim (cases_lt (load N leads u) (ℓ u)) [
      | inr h ↦ inr (λ _. h)
      | inl h ↦ elim (cases_Bool (D u)) [ inl t ↦ inl (t, h) | inr f ↦ inr (λ t. absurd (both_ways (D u) f t)) ]
    ]

    walked : (u o : ℕ) → Walk leads u o → D o ≡ true → D u ≡ true
    walked u o here m = m
    walked u o (step {y = y} k t) m = r.back u y k (walked y o t m)

    found : (u : ℕ) × (u < N) × ((D u ≡ true) × (load N leads u < ℓ u)) → Uneven N leads ℓ
    found f =
        let u = f.0 in
        let t = r.reaches u f.1 f.2.0 in
        let o = t.0 in
        let c = walk_chain t.3 in
        record {
          start = u;
          rest = c.0;
          start_in = f.1;
          end_in = rw c.2 t.1;
          chain = c.1;
          under = f.2.1;
          above = rw c.2 t.2;
        }

-- at some level below L uneven, or tight at all of them
pub all_tight_or_uneven : (N L : ℕ) (leads : Leads) (ℓ : ℕ → ℕ → ℕ) → Network N leads → ((a : ℕ) × (a < L) × Uneven N leads (ℓ a)) ⊎ ((a : ℕ) → a < L → Tight N leads (ℓ a))
all_tight_or_uneven N L leads ℓ net = some_or_all (λ a. Uneven N leads (ℓ a)) (λ a. Tight N leads (ℓ a)) (λ a. tight_or_uneven N leads (ℓ a) net) L

-- the same pairs, otherwise directed, tight at all levels
pub settled : (N L : ℕ) (ℓ : ℕ → ℕ → ℕ) → ((a c n : ℕ) → a ≤ c → c < L → ℓ a n ≤ ℓ c n) → (fuel : ℕ) (leads : Leads) → Network N leads
    → sum L (λ c. over N (load N leads) (ℓ c)) < fuel
    → (links : Leads) × Network N links × ((a : ℕ) → a < L → Tight N links (ℓ a)) × ((a b : ℕ) → bit (links a b) + bit (links b a) ≡ bit (leads a b) + bit (leads b a))
settled N L ℓ rising zero leads net f = absurd (omega arith)
settled N L ℓ rising (suc fuel) leads net f = elim (all_tight_or_uneven N L leads ℓ net) [
  | inr t ↦ (leads, net, t, λ a b. refl)
  | inl u ↦
      let a = u.0 in
      let v = u.2 in
      let s = settling N leads net v.start v.rest v.chain v.start_in v.end_in ℓ L rising a u.1 v.under v.above in
      let n = chain_net N v.start v.rest leads net v.chain in
      let again = settled N L ℓ rising fuel (turned v.start v.rest leads) n (omega arith) in
      (again.0, again.1, again.2, λ a b. again.3 a b ∙ chain_joins N v.start v.rest leads net v.chain a b)
]

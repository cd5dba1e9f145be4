-- What turning a link, and a chain of links, does to loads and pairs.
use Rattle.std.proofs.Common.{◌≡◌, ℕ, ◌+◌, true, false, cond, ◌&&◌, eqb, ◌⊎◌, List, [], ◌∷◌, refl, ◌∙◌, inl, inr, arith}
use Rattle.std.proofs.lemmas.Bool.{cases_Bool, cases_eq}
use Rattle.std.proofs.lemmas.Bool.Decides.{nat_tests}
use Rattle.blocks.specs.Sums.{sum, bit}
use Rattle.blocks.specs.Sets.{Set}
use Rattle.blocks.specs.Networks.{Leads, Network, load, leads_in, Walk, here, step}
use Rattle.blocks.specs.Chains.{NoneOf, Chain, end, next_in, turn, turned}
use Rattle.blocks.proofs.Sums.{sum_cong, sum_add, sum_swap, sum_at}

-- two networks that join the same nodes have the same pairs
pub pairs_same : (N : ℕ) (f g : Leads) → ((a b : ℕ) → bit (f a b) + bit (f b a) ≡ bit (g a b) + bit (g b a)) → (X : Set) → leads_in N f X ≡ leads_in N g X
pairs_same N f g same X =
    let p = doubled f in
    let q = doubled g in
    let r = sum_cong N (λ x. sum N (λ y. both f x y)) (λ x. sum N (λ y. both g x y))
    (λ x _. sum_cong N (λ y. both f x y) (λ y. both g x y) (λ y _. at x y)) in
    omega arith
  where
    term : Leads → ℕ → ℕ → ℕ
    term h x y = bit (h x y && (X x && X y))

    both : Leads → ℕ → ℕ → ℕ
    both h x y = term h x y + term h y x

    at : (x y : ℕ) → both f x y ≡ both g x y
    at x y = let s = same x y in grind arith

    doubled : (h : Leads) → leads_in N h X + leads_in N h X ≡ sum N (λ x. sum N (λ y. both h x y))
    doubled h =
        let a = sum_swap N N (λ x y. term h x y) in
        let b = sum_add N (λ x. sum N (λ y. term h x y)) (λ x. sum N (λ y. term h y x)) in
        let c = sum_cong N (λ x. sum N (λ y. both h x y)) (λ x. sum N (λ y. term h x y) + sum N (λ y. term h y x))
        (λ x _. sum_add N (λ y. term h x y) (λ y. term h y x)) in
        omega arith

module _ (N : ℕ) (leads : Leads) (net : Network N leads) (x y : ℕ) (link : leads x y ≡ true) where
  back_no : leads y x ≡ false
  back_no = elim (cases_Bool (leads y x)) [ inl e ↦ absurd (net.one_way x y link e) | inr e ↦ e ]

  apart : x ≡ y → ⊥
  apart e = net.one_way x y link (cc)

  turn_at : (z a : ℕ) → bit (turn x y leads a z) + cond (eqb a x) (bit (eqb z y)) 0 ≡ bit (leads a z) + cond (eqb a y) (bit (eqb z x)) 0
  turn_at z a = let b = back_no in let d = apart in grind (arith, nat_tests)

  pub turn_load : (z : ℕ) → load N (turn x y leads) z + bit (eqb z y) ≡ load N leads z + bit (eqb z x)
  turn_load z =
      let a = sum_cong N (λ a. bit (turn x y leads a z) + cond (eqb a x) (bit (eqb z y)) 0) (λ a. bit (leads a z) + cond (eqb a y) (bit (eqb z x)) 0) (λ a _. turn_at z a) in
      let b = sum_add N (λ a. bit (turn x y leads a z)) (λ a. cond (eqb a x) (bit (eqb z y)) 0) in
      let c = sum_add N (λ a. bit (leads a z)) (λ a. cond (eqb a y) (bit (eqb z x)) 0) in
      let d = sum_at N x (bit (eqb z y)) (net.within x y link).0 in
      let e = sum_at N y (bit (eqb z x)) (net.within x y link).1 in
      omega arith

  pub turn_joins : (a b : ℕ) → bit (turn x y leads a b) + bit (turn x y leads b a) ≡ bit (leads a b) + bit (leads b a)
  turn_joins a b = let n = back_no in let d = apart in grind (arith, nat_tests)

  pub turn_net : Network N (turn x y leads)
  turn_net = record {
    within = λ a b t. let w = net.within a b in let v = net.within x y link in grind (arith, nat_tests);
    one_way = λ a b t u. let o = net.one_way a b in let n = back_no in let d = apart in grind (arith, nat_tests);
  }

-- nothing changes between nodes other than x
pub turn_off : (leads : Leads) (x y a b : ℕ) → (x ≡ a → ⊥) → (x ≡ b → ⊥) → turn x y leads a b ≡ leads a b
turn_off leads x y a b p q = grind (arith, nat_tests)

pub turn_chain : (leads : Leads) (x y v : ℕ) (vs : List ℕ) → NoneOf x (v ∷ vs) → Chain leads v vs → Chain (turn x y leads) v vs
turn_chain leads x y v [] f c = tt
turn_chain leads x y v (w ∷ vs) f c = (turn_off leads x y v w f.0 f.1.0 ∙ c.0, c.1, turn_chain leads x y w vs f.1 c.2)

-- a chain turned: the first node gains one, the last loses one
pub chain_load : (N : ℕ) (x : ℕ) (vs : List ℕ) (leads : Leads) → Network N leads → Chain leads x vs
    → (z : ℕ) → load N (turned x vs leads) z + bit (eqb z (end x vs)) ≡ load N leads z + bit (eqb z x)
chain_load N x [] leads net c z = refl
chain_load N x (y ∷ vs) leads net c z =
    let a = turn_load N leads net x y c.0 z in
    let b = chain_load N y vs (turn x y leads) (turn_net N leads net x y c.0) (turn_chain leads x y y vs c.1 c.2) z in
    omega arith

pub chain_net : (N : ℕ) (x : ℕ) (vs : List ℕ) (leads : Leads) → Network N leads → Chain leads x vs → Network N (turned x vs leads)
chain_net N x [] leads net c = net
chain_net N x (y ∷ vs) leads net c = chain_net N y vs (turn x y leads) (turn_net N leads net x y c.0) (turn_chain leads x y y vs c.1 c.2)

pub chain_joins : (N : ℕ) (x : ℕ) (vs : List ℕ) (leads : Leads) → Network N leads → Chain leads x vs
    → (a b : ℕ) → bit (turned x vs leads a b) + bit (turned x vs leads b a) ≡ bit (leads a b) + bit (leads b a)
chain_joins N x [] leads net c a b = refl
chain_joins N x (y ∷ vs) leads net c a b =
    chain_joins N y vs (turn x y leads) (turn_net N leads net x y c.0) (turn_chain leads x y y vs c.1 c.2) a b
    ∙ turn_joins N leads net x y c.0 a b

pub chain_pairs : (N : ℕ) (x : ℕ) (vs : List ℕ) (leads : Leads) → Network N leads → Chain leads x vs → (X : Set) → leads_in N (turned x vs leads) X ≡ leads_in N leads X
chain_pairs N x vs leads net c = pairs_same N (turned x vs leads) leads (chain_joins N x vs leads net c)

-- exactly the links of the chain are turned
pub next_absent : (x v : ℕ) (vs : List ℕ) → NoneOf x (v ∷ vs) → (b : ℕ) → (next_in v vs x b ≡ false) × (next_in v vs b x ≡ false)
next_absent x v [] f b = (refl, refl)
next_absent x v (w ∷ vs) f b = let r = next_absent x w vs f.1 b in let p = f.0 in let q = f.1.0 in (grind (arith, nat_tests), grind (arith, nat_tests))

pub chain_exactly : (x : ℕ) (vs : List ℕ) (leads : Leads) → Chain leads x vs → (a b : ℕ)
    → turned x vs leads a b ≡ cond (next_in x vs a b) false (cond (next_in x vs b a) true (leads a b))
chain_exactly x [] leads c a b = refl
chain_exactly x (y ∷ vs) leads c a b =
    let r = chain_exactly y vs (turn x y leads) (turn_chain leads x y y vs c.1 c.2) a b in
    let p = next_absent x y vs c.1 y in
    grind (arith, nat_tests)

pub chain_walk : (leads : Leads) (x : ℕ) (vs : List ℕ) → Chain leads x vs → Walk leads x (end x vs)
chain_walk leads x [] c = here
chain_walk leads x (y ∷ vs) c = step c.0 (chain_walk leads y vs c.2)

-- x is in the chain, and the chain goes on from there; or it is not
from_here : (leads : Leads) (x y : ℕ) (vs : List ℕ) → Chain leads y vs → ((ws : List ℕ) × Chain leads x ws × (end x ws ≡ end y vs)) ⊎ NoneOf x (y ∷ vs)
from_here leads x y [] c = elim (cases_eq x y) [ inl e ↦ inl ([], tt, e) | inr d ↦ inr (d, tt) ]
from_here leads x y (v ∷ vs) c = elim (cases_eq x y) [
  | inl e ↦ inl (rw e (v ∷ vs, c, refl))
  | inr d ↦ elim (from_here leads x v vs c.2) [ inl found ↦ inl found | inr f ↦ inr (d, f) ]
]

pub walk_chain : {leads : Leads} {x z : ℕ} → Walk leads x z → (vs : List ℕ) × Chain leads x vs × (end x vs ≡ z)
walk_chain here = ([], tt, refl)
walk_chain {leads} {x} (step {y = y} k r) =
    let c = walk_chain r in
    elim (from_here leads x y c.0 c.1) [
      | inl f ↦ (f.0, f.1, f.2 ∙ c.2)
      | inr f ↦ (y ∷ c.0, (k, f, c.1), c.2)
    ]

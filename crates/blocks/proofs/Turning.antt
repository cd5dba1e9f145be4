-- One pair more or less turns one chain; every yard has even sides.
use Rattle.std.proofs.Common.{◌≡◌, ℕ, ◌+◌, ◌-◌, ◌<◌, Bool, true, false, not, ◌&&◌, sym, ap, ◌∙◌, subst, inl, inr, arith}
use mathlib.Core.Path.{fun_ext}
use Rattle.std.proofs.lemmas.Bool.{cases_Bool, cases_lt}
use Rattle.blocks.specs.Sums.{bit}
use Rattle.blocks.specs.Limits.{Limits, Rising, limit_at}
use Rattle.blocks.specs.Yards.{Yard, nodes, drop}
use Rattle.blocks.specs.Networks.{Leads, Network, load, degree}
use Rattle.blocks.specs.Chains.{Chain, without_lead}
use Rattle.blocks.specs.Sides.{Sides, Sized, Even, EvenNetwork, Crossing, pointing, put, flipped, OneChainTurned}
use Rattle.blocks.specs.Theorems.{AdditionTurnsOneChain, DropTurnsOneChain, EvenSidesExist}
use Rattle.blocks.proofs.EvenExists.{SamePairs, even_exists}
use Rattle.blocks.proofs.Flips.{from_bus, from_post, low, high}
use Rattle.blocks.proofs.Levels.{at_bus}
use Rattle.blocks.proofs.OneChain.{addition, dropping}
use Rattle.blocks.proofs.OnePair as one-pair
use Rattle.blocks.proofs.Yards.{levels, net_of}

-- every pair joins a bus and a post
pub crossing : (B : ℕ) (paired : ℕ → ℕ → Bool) (s : Sides) → Crossing B (pointing B paired s)
crossing B paired s x y h = elim (cases_lt x B) [
  | inl xb ↦ elim (cases_lt y B) [
    | inl yb ↦ let e = low B paired s x y xb yb in absurd (grind arith)
    | inr yb ↦ inl (xb, yb)
  ]
  | inr xb ↦ elim (cases_lt y B) [
    | inl yb ↦ inr (xb, yb)
    | inr yb ↦ let e = high B paired s x y xb yb in absurd (grind arith)
  ]
]

-- a network that joins the same pairs is that of some sides
module _ (Y : Yard) (s : Sides) (links : Leads) (net : Network (nodes Y) links) (same : SamePairs links (pointing Y.buses Y.paired s)) where
  read : Sides
  read b p = links b (Y.buses + p)

  both_low : (f g h k : Bool) → bit f + bit g ≡ bit h + bit k → h ≡ false → k ≡ false → false ≡ f
  both_low f g h k e p q = grind arith

  bus_way : (f g p t : Bool) → bit f + bit g ≡ bit (p && t) + bit (p && not t) → (p && f) ≡ f
  bus_way f g p t e = grind arith

  post_way : (f g p t : Bool) → bit f + bit g ≡ bit (p && not t) + bit (p && t) → (f ≡ true → g ≡ true → ⊥) → (p && not g) ≡ f
  post_way f g p t e d = grind arith

  at : (x y : ℕ) → pointing Y.buses Y.paired read x y ≡ links x y
  unfolding read
  at x y =
      let B : ℕ = Y.buses in
      elim (cases_lt x B) [
        | inl xb ↦ elim (cases_lt y B) [
          | inl yb ↦ low B Y.paired read x y xb yb ∙ both_low _ _ _ _ (same x y) (low B Y.paired s x y xb yb) (low B Y.paired s y x yb xb)
          | inr yb ↦
              let e : B + (y - B) ≡ y = omega arith in
              let p = from_bus B Y.paired s x y xb yb in
              let q = from_post B Y.paired s y x yb xb in
              from_bus B Y.paired read x y xb yb ∙ ap (λ z. Y.paired x (y - B) && links x z) e
              ∙ bus_way (links x y) (links y x) (Y.paired x (y - B)) (s x (y - B)) (let z = same x y in let p2 = ap bit p in let q2 = ap bit q in omega arith)
        ]
        | inr xb ↦ elim (cases_lt y B) [
          | inl yb ↦
              let e : B + (x - B) ≡ x = omega arith in
              let p = from_post B Y.paired s x y xb yb in
              let q = from_bus B Y.paired s y x yb xb in
              from_post B Y.paired read x y xb yb ∙ ap (λ z. Y.paired y (x - B) && not (links y z)) e
              ∙ post_way (links x y) (links y x) (Y.paired y (x - B)) (s y (x - B)) (let z = same x y in let p2 = ap bit p in let q2 = ap bit q in omega arith) (net.one_way x y)
          | inr yb ↦ high B Y.paired read x y xb yb ∙ both_low _ _ _ _ (same x y) (high B Y.paired s x y xb yb) (high B Y.paired s y x yb xb)
        ]
      ]

  pub sides_of : (t : Sides) × (pointing Y.buses Y.paired t ≡ links)
  sides_of = (read, fun_ext (λ x. fun_ext (λ y. at x y)))

pub even_sides_exist : EvenSidesExist
even_sides_exist Y L rising sized =
    let s : Sides = λ _ _. true in
    let f = even_exists Y.buses (nodes Y) 256 (limit_at Y.buses L) (levels Y L rising) (pointing Y.buses Y.paired s) (net_of Y s sized) (crossing Y.buses Y.paired s) in
    let t = sides_of Y s f.0 f.1 f.2 in
    (t.0, subst (λ g. EvenNetwork Y.buses (nodes Y) 256 (limit_at Y.buses L) g) (sym t.1) f.3)

pub addition_turns_one_chain : AdditionTurnsOneChain
addition_turns_one_chain Y L s rising sized even b p lb lp fresh =
    let B : ℕ = Y.buses in
    let leads : Leads = pointing B Y.paired s in
    elim (cases_lt (load (nodes Y) leads b) (L.bus b)) [
      | inl under ↦ (put b p false s, one-pair.add_to_bus Y L s rising sized even b p lb lp fresh under, one-pair.add_to_bus_chain Y L s rising sized even b p lb lp fresh)
      | inr full ↦
          let r = addition B (nodes Y) 256 (limit_at B L) (levels Y L rising) leads (net_of Y s sized) even b (B + p) lb (omega arith) (omega arith) (omega arith)
          (one-pair.no_lead Y L s rising sized even b p lb lp fresh) (one-pair.no_back Y L s rising sized even b p lb lp fresh) (let q = at_bus Y L 0 b lb in omega arith) in
          let c = subst (λ g. Chain g r.0 r.1) (sym (one-pair.more_is Y L s rising sized even b p lb lp fresh)) r.3 in (
            flipped B r.0 r.1 (put b p true s),
            subst (λ g. EvenNetwork B (nodes Y) 256 (limit_at B L) g) (sym (one-pair.added_is Y L s rising sized even b p lb lp fresh r.0 r.1 c r.4)) r.5,
            one-pair.add_to_post_chain Y L s rising sized even b p lb lp fresh r.0 r.1 c r.4,
          )
    ]

-- the end y carried the pair: a post, or a bus with more pairs than its limit
module _ (Y : Yard) (L : Limits) (s : Sides) (rising : Rising L) (sized : Sized Y) (even : Even Y L s) (b p : ℕ) (lb : b < Y.buses) (lp : p < Y.posts) (held : Y.paired b p ≡ true) where
  heavy_drop : (x y : ℕ) → pointing Y.buses Y.paired s x y ≡ true
      → pointing Y.buses (drop b p Y).paired (put b p true s) ≡ without_lead x y (pointing Y.buses Y.paired s)
      → (y < Y.buses → L.bus y < degree (nodes Y) (pointing Y.buses Y.paired s) y)
      → (t : Sides) × Even (drop b p Y) L t × OneChainTurned Y (drop b p Y).paired s t
  heavy_drop x y link is heavy =
      let B : ℕ = Y.buses in
      let r = dropping B (nodes Y) 256 (limit_at B L) (levels Y L rising) (pointing B Y.paired s) (net_of Y s sized) even (crossing B Y.paired s) x y link
      (λ h. let q = at_bus Y L 0 y h in let k = heavy h in omega arith) in
      let c = subst (λ g. Chain g y r.0) (sym is) r.2 in (
        flipped B y r.0 (put b p true s),
        subst (λ g. EvenNetwork B (nodes Y) 256 (limit_at B L) g) (sym (one-pair.dropped_is Y L s rising sized even b p lb lp held true x y link is r.0 c)) r.3,
        one-pair.drop_chain Y L s rising sized even b p lb lp held true x y link is r.0 c,
      )

  pub drop_one_chain : (t : Sides) × Even (drop b p Y) L t × OneChainTurned Y (drop b p Y).paired s t
  drop_one_chain =
      let B : ℕ = Y.buses in
      elim (cases_Bool (s b p)) [
        | inl on_post ↦
            heavy_drop b (B + p) (one-pair.post_link Y L s rising sized even b p lb lp held true on_post)
            (one-pair.from_post_is Y L s rising sized even b p lb lp held true on_post) (λ h. absurd (omega arith))
        | inr on_bus ↦
            let link = one-pair.bus_link Y L s rising sized even b p lb lp held true on_bus in
            let is = one-pair.from_bus_is Y L s rising sized even b p lb lp held true on_bus in
            elim (cases_lt (L.bus b) (degree (nodes Y) (pointing B Y.paired s) b)) [
              | inl heavy ↦ heavy_drop (B + p) b link is (λ _. heavy)
              | inr light ↦ (
                put b p true s,
                one-pair.drop_light Y L s rising sized even b p lb lp held true (B + p) b link is lb light,
                one-pair.drop_light_chain Y L s rising sized even b p lb lp held true,
              )
            ]
      ]

pub drop_turns_one_chain : DropTurnsOneChain
drop_turns_one_chain = drop_one_chain

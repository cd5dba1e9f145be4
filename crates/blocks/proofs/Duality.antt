-- Weak duality, and what a tight level gives.
use Rattle.std.proofs.Common.{◌≡◌, ℕ, ◌+◌, ◌-◌, ◌<◌, ◌≤◌, Bool, true, false, cond, not, ◌&&◌, refl, ap, ◌∙◌, inl, inr, arith}
use Rattle.std.proofs.lemmas.Bool.{cases_Bool, cases_lt, both_ways, or_from, cond-true, cond-false}
use Rattle.blocks.specs.Sums.{sum, bit}
use Rattle.blocks.specs.Sets.{Set, ◌∪◌, ◌∖◌}
use Rattle.blocks.specs.Limits.{limit}
use Rattle.blocks.specs.Blocks.{Block, Exceeds}
use Rattle.blocks.specs.Networks.{Leads, Network, load, over, leads_in, Walk, here, step, Tight, Reach}
use Rattle.blocks.proofs.Sums.{sum_cong, sum_le, sum_lt, sum_add, sum_swap, sum_same, sum_none}

-- some set has all that the loads are over its limit
abbrev pub Attained : ℕ → Leads → (ℕ → ℕ) → Type 0
Attained N leads ℓ = (X : Set) × Exceeds N (leads_in N leads) ℓ (over N (load N leads) ℓ) X

-- the pairs inside X that y carries
abbrev pub column : ℕ → Leads → Set → ℕ → ℕ
column N leads X y = sum N (λ x. bit (leads x y && (X x && X y)))

pub by_column : (N : ℕ) (leads : Leads) (X : Set) → leads_in N leads X ≡ sum N (column N leads X)
by_column N leads X = sum_swap N N (λ x y. bit (leads x y && (X x && X y)))

both_le : (a x y : Bool) → bit (a && (x && y)) ≤ bit a
both_le a x y = grind arith

both_no : (a x y : Bool) → y ≡ false → bit (a && (x && y)) ≡ 0
both_no a x y h = grind arith

both_yes : (a x y : Bool) → (a ≡ true → x ≡ true) → y ≡ true → bit (a && (x && y)) ≡ bit a
both_yes a x y h k = grind arith

less : (a x u y v : Bool) → bit (a && ((x && not u) && (y && not v))) ≤ bit (a && (x && y))
less a x u y v = grind arith

pub column_le : (N : ℕ) (leads : Leads) (X : Set) (y : ℕ) → column N leads X y ≤ load N leads y
column_le N leads X y = sum_le N (λ x. bit (leads x y && (X x && X y))) (λ x. bit (leads x y)) (λ x _. both_le (leads x y) (X x) (X y))

pub column_none : (N : ℕ) (leads : Leads) (X : Set) (y : ℕ) → X y ≡ false → column N leads X y ≡ 0
column_none N leads X y h = sum_none N (λ x. bit (leads x y && (X x && X y))) (λ x _. both_no (leads x y) (X x) (X y) h)

pub column_all : (N : ℕ) (leads : Leads) (X : Set) (y : ℕ) → X y ≡ true → ((x : ℕ) → x < N → leads x y ≡ true → X x ≡ true) → column N leads X y ≡ load N leads y
column_all N leads X y h b = sum_cong N (λ x. bit (leads x y && (X x && X y))) (λ x. bit (leads x y)) (λ x l. both_yes (leads x y) (X x) (X y) (b x l) h)

column_bound : (N : ℕ) (leads : Leads) (ℓ : ℕ → ℕ) (X : Set) (y : ℕ) → column N leads X y ≤ cond (X y) (ℓ y) 0 + (load N leads y - ℓ y)
column_bound N leads ℓ X y = go (X y) refl
  where
    go : (b : Bool) → X y ≡ b → column N leads X y ≤ cond b (ℓ y) 0 + (load N leads y - ℓ y)
    go true e = let a = column_le N leads X y in omega arith
    go false e = let a = column_none N leads X y e in omega arith

pub weak_duality : (N : ℕ) (leads : Leads) (ℓ : ℕ → ℕ) (X : Set) → leads_in N leads X ≤ limit N ℓ X + over N (load N leads) ℓ
unfolding limit
weak_duality N leads ℓ X =
    let a = by_column N leads X in
    let b = sum_le N (column N leads X) (λ y. cond (X y) (ℓ y) 0 + (load N leads y - ℓ y)) (λ y _. column_bound N leads ℓ X y) in
    let c = sum_add N (λ y. cond (X y) (ℓ y) 0) (λ y. load N leads y - ℓ y) in omega arith

-- complementary slackness: a set that attains, place by place
module _ (N : ℕ) (leads : Leads) (ℓ : ℕ → ℕ) (X : Set) (attains : leads_in N leads X ≡ limit N ℓ X + over N (load N leads) ℓ) where
  slack : (y : ℕ) → y < N → column N leads X y ≡ cond (X y) (ℓ y) 0 + (load N leads y - ℓ y)
  unfolding limit
  slack y l =
      let a = by_column N leads X in
      let c = sum_add N (λ y. cond (X y) (ℓ y) 0) (λ y. load N leads y - ℓ y) in
      sum_same N (column N leads X) (λ y. cond (X y) (ℓ y) 0 + (load N leads y - ℓ y)) (λ y _. column_bound N leads ℓ X y) (omega arith) y l

  -- a node over its limit is in the set
  pub slack_over : (y : ℕ) → y < N → ℓ y < load N leads y → X y ≡ true
  slack_over y l o = go (X y) refl (slack y l)
    where
      go : (b : Bool) → X y ≡ b → column N leads X y ≡ cond b (ℓ y) 0 + (load N leads y - ℓ y) → X y ≡ true
      go true e s = e
      go false e s = let a = column_none N leads X y e in absurd (omega arith)

  -- a member is at its limit or over it
  pub slack_full : (y : ℕ) → y < N → X y ≡ true → ℓ y ≤ load N leads y
  slack_full y l e =
      let s : column N leads X y ≡ ℓ y + (load N leads y - ℓ y) = slack y l ∙ ap (λ b. cond b (ℓ y) 0 + (load N leads y - ℓ y)) e in
      let a = column_le N leads X y in omega arith

  -- what leads to a member is a member
  pub slack_back : (x y : ℕ) → x < N → y < N → leads x y ≡ true → X y ≡ true → X x ≡ true
  slack_back x y lx ly k e = go (X x) refl
    where
      go : (b : Bool) → X x ≡ b → X x ≡ true
      go true d = d
      go false d =
          let s : column N leads X y ≡ ℓ y + (load N leads y - ℓ y) = slack y ly ∙ ap (λ b. cond b (ℓ y) 0 + (load N leads y - ℓ y)) e in
          let here : bit (leads x y && (X x && X y)) < bit (leads x y) = simp (k, d) (omega arith) in
          let a = sum_lt N (λ x. bit (leads x y && (X x && X y))) (λ x. bit (leads x y)) (λ x _. both_le (leads x y) (X x) (X y)) x lx here in
          absurd (omega arith)

  walk_in : (u o : ℕ) → Walk leads u o → ((x y : ℕ) → leads x y ≡ true → (x < N) × (y < N)) → X o ≡ true → X u ≡ true
  walk_in u o here w m = m
  walk_in u o (step {y = y} k r) w m = slack_back u y (w u y k).0 (w u y k).1 k (walk_in y o r w m)

-- whoever attains is tight
pub attained_tight : (N : ℕ) (leads : Leads) (ℓ : ℕ → ℕ) → Network N leads → Attained N leads ℓ → Tight N leads ℓ
attained_tight N leads ℓ net (X, a) u o lu lo under above w =
    let m = walk_in N leads ℓ X a u o w net.within (slack_over N leads ℓ X a o lo above) in
    let f = slack_full N leads ℓ X a u lu m in omega arith

-- the reach set of a tight level
module _ (N : ℕ) (leads : Leads) (ℓ : ℕ → ℕ) (D : Set) (reach : Reach N leads ℓ D) (tight : Tight N leads ℓ) where
  full : (y : ℕ) → y < N → D y ≡ true → ℓ y ≤ load N leads y
  full y l m = elim (cases_lt (load N leads y) (ℓ y)) [
    | inl h ↦ let r = reach.reaches y l m in absurd (tight y r.0 l r.1 h r.2 r.3)
    | inr h ↦ h
  ]

  not_over : (y : ℕ) → y < N → D y ≡ false → load N leads y ≤ ℓ y
  not_over y l m = elim (cases_lt (ℓ y) (load N leads y)) [
    | inl h ↦ let r = reach.over_in y l h in absurd (both_ways (D y) m r)
    | inr h ↦ h
  ]

  member_column : (y : ℕ) → D y ≡ true → column N leads D y ≡ load N leads y
  member_column y m = column_all N leads D y m (λ x _ k. reach.back x y k m)

  reach_column : (y : ℕ) → y < N → column N leads D y ≡ cond (D y) (ℓ y) 0 + (load N leads y - ℓ y)
  reach_column y l = go (D y) refl
    where
      go : (b : Bool) → D y ≡ b → column N leads D y ≡ cond b (ℓ y) 0 + (load N leads y - ℓ y)
      go true e = let a = member_column y e in let f = full y l e in omega arith
      go false e = let a = column_none N leads D y e in let f = not_over y l e in omega arith

  pub reach_attains : leads_in N leads D ≡ limit N ℓ D + over N (load N leads) ℓ
  unfolding limit
  reach_attains =
      by_column N leads D ∙ sum_cong N (column N leads D) (λ y. cond (D y) (ℓ y) 0 + (load N leads y - ℓ y)) reach_column
      ∙ sum_add N (λ y. cond (D y) (ℓ y) 0) (λ y. load N leads y - ℓ y)

  reach_outside : (U : Set) → ((n : ℕ) → n < N → U n ≡ true → D n ≡ false) → leads_in N leads (D ∪ U) ≤ leads_in N leads D + limit N ℓ U
  unfolding limit
  reach_outside U apart =
      let a = by_column N leads D in
      let b = by_column N leads (D ∪ U) in
      let c = sum_add N (column N leads D) (λ y. cond (U y) (ℓ y) 0) in
      let d = sum_le N (column N leads (D ∪ U)) (λ y. column N leads D y + cond (U y) (ℓ y) 0) each in
      omega arith
    where
      at : (y : ℕ) → y < N → (d u : Bool) → D y ≡ d → U y ≡ u → column N leads (D ∪ U) y ≤ column N leads D y + cond u (ℓ y) 0
      at y l true u e f = let p = member_column y e in let q = column_le N leads (D ∪ U) y in omega arith
      at y l false true e f = let p = not_over y l e in let q = column_le N leads (D ∪ U) y in omega arith
      at y l false false e f = let q = column_none N leads (D ∪ U) y (or_from (D y) (U y) e f) in omega arith

      each : (y : ℕ) → y < N → column N leads (D ∪ U) y ≤ column N leads D y + cond (U y) (ℓ y) 0
      each y l = at y l (D y) (U y) refl refl

  reach_walk : (u o : ℕ) → Walk leads u o → D o ≡ true → D u ≡ true
  reach_walk u o here m = m
  reach_walk u o (step {y = y} k r) m = reach.back u y k (reach_walk y o r m)

  module _ (net : Network N leads) (U : Set) (part : (n : ℕ) → n < N → U n ≡ true → D n ≡ true) where
    lost_le : (y : ℕ) → y < N → cond (U y) (ℓ y) 0 + column N leads (D ∖ U) y ≤ column N leads D y
    lost_le y l = go (U y) refl
      where
        go : (b : Bool) → U y ≡ b → cond b (ℓ y) 0 + column N leads (D ∖ U) y ≤ column N leads D y
        go true e =
            let a = column_none N leads (D ∖ U) y (grind arith) in
            let b = member_column y (part y l e) in
            let f = full y l (part y l e) in omega arith
        go false e =
            let a = sum_le N (λ x. bit (leads x y && ((D ∖ U) x && (D ∖ U) y))) (λ x. bit (leads x y && (D x && D y)))
            (λ x _. less (leads x y) (D x) (U x) (D y) (U y)) in omega arith

    -- the walk ends in U
    strict_end : (y : ℕ) → U y ≡ true → D y ≡ true → ℓ y < load N leads y → cond (U y) (ℓ y) 0 + column N leads (D ∖ U) y < column N leads D y
    strict_end y e d above =
        let a = column_none N leads (D ∖ U) y (grind arith) in
        let b = member_column y d in
        let c = cond-true (U y) (ℓ y) 0 e in omega arith

    -- the walk leaves U
    strict_leave : (u y : ℕ) → u < N → leads u y ≡ true → U u ≡ true → D u ≡ true → U y ≡ false → D y ≡ true → cond (U y) (ℓ y) 0 + column N leads (D ∖ U) y < column N leads D y
    strict_leave u y l k m du e dy =
        let h : bit (leads u y && ((D ∖ U) u && (D ∖ U) y)) < bit (leads u y && (D u && D y)) = simp (k, m, du, e, dy) (omega arith) in
        let a = sum_lt N (λ x. bit (leads x y && ((D ∖ U) x && (D ∖ U) y))) (λ x. bit (leads x y && (D x && D y)))
        (λ x _. less (leads x y) (D x) (U x) (D y) (U y)) u l h in
        let c = cond-false (U y) (ℓ y) 0 e in omega arith

    strict : (u o : ℕ) → u < N → Walk leads u o → U u ≡ true → D o ≡ true → ℓ o < load N leads o
        → (y : ℕ) × (y < N) × (cond (U y) (ℓ y) 0 + column N leads (D ∖ U) y < column N leads D y)
    strict u o l here m d above = (u, l, strict_end u m d above)
    strict u o l (step {y = y} k r) m d above =
        let dy = reach_walk y o r d in
        let ly = (net.within u y k).1 in
        elim (cases_Bool (U y)) [
          | inl e ↦ strict y o ly r e d above
          | inr e ↦ (y, ly, strict_leave u y l k m (reach.back u y k dy) e dy)
        ]

    reach_inside : (n : ℕ) → n < N → U n ≡ true → limit N ℓ U + leads_in N leads (D ∖ U) < leads_in N leads D
    unfolding limit
    reach_inside n l m =
        let r = reach.reaches n l (part n l m) in
        let s = strict n r.0 l r.3 m (reach.over_in r.0 r.1 r.2) r.2 in
        let a = by_column N leads D in
        let b = by_column N leads (D ∖ U) in
        let c = sum_add N (λ y. cond (U y) (ℓ y) 0) (column N leads (D ∖ U)) in
        let d = sum_lt N (λ y. cond (U y) (ℓ y) 0 + column N leads (D ∖ U) y) (column N leads D) lost_le s.0 s.1 s.2 in
        omega arith

  pub reach_block : Network N leads → Block N (leads_in N leads) ℓ D
  reach_block net = record { inside = reach_inside net; outside = reach_outside }

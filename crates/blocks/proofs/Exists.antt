-- The block exists: `block` is one. The shortfall is the largest excess.
use Rattle.std.proofs.Common.{◌≡◌, ℕ, zero, suc, ◌+◌, ◌-◌, ◌<◌, ◌≤◌, true, false, not, eqb, ◌⊎◌, sym, refl, ap, ◌∙◌, ap₂, inl, inr, arith}
use Rattle.std.proofs.lemmas.Bool.{cases_Bool, cases_eq, cases_lt, and_left, and_right, eq-eqb, ltb-true, ltb-false, not_from_true, true≢false}
use Rattle.std.proofs.lemmas.Bool.Decides.{nat_tests}
use Rattle.blocks.specs.Sums.{bit}
use Rattle.blocks.specs.Sets.{Set, nobody, ◌∪◌, ◌∩◌, ◌∖◌, one, Within, Same}
use Rattle.blocks.specs.Limits.{limit}
use Rattle.blocks.specs.Yards.{Yard, nodes, pairs}
use Rattle.blocks.specs.Blocks.{Block, Shortfall, excess, shortfall, block, Exceeds}
use Rattle.blocks.proofs.Sums.{sum_cong, sum_zero}
use Rattle.blocks.proofs.Pairs.{pairs_super, limit_mod, pairs_same, limit_same, limit_part, limit_join}
use Rattle.blocks.proofs.Compare.{same_bool}
use Rattle.blocks.proofs.Largest.{largest_most, largest_met, clip, clip_only, clip_same}

pub pairs_nobody : (A : Yard) → pairs A nobody ≡ 0
unfolding pairs
pairs_nobody A =
    sum_cong A.buses _ (λ _. 0) (λ b w. sum_cong A.posts _ (λ _. 0) (λ p v. ap bit (and_right (A.paired b p) false refl)) ∙ sum_zero A.posts)
    ∙ sum_zero A.buses

pub limit_nobody : (n : ℕ) (ℓ : ℕ → ℕ) → limit n ℓ nobody ≡ 0
unfolding limit
limit_nobody n ℓ = sum_zero n

-- X has the excess s; the greatest, if s is the shortfall
abbrev pub Greatest : Yard → (ℕ → ℕ) → ℕ → Set → Type 0
Greatest A ℓ s = Exceeds (nodes A) (pairs A) ℓ s

module _ (A : Yard) (ℓ : ℕ → ℕ) where
  excess_same : (X Y : Set) → Same (nodes A) X Y → excess A ℓ X ≡ excess A ℓ Y
  unfolding excess
  excess_same X Y same = ap₂ ◌-◌ (pairs_same A X Y same) (limit_same (nodes A) ℓ X Y same)

  -- no set has more
  pub most : (X : Set) → pairs A X ≤ limit (nodes A) ℓ X + shortfall A ℓ
  unfolding shortfall excess
  most X =
      let m = largest_most (nodes A) (excess A ℓ) (clip (nodes A) X) (clip_only (nodes A) X) in
      let e = excess_same (clip (nodes A) X) X (clip_same (nodes A) X) in
      omega arith

  -- a set whose excess is at least the shortfall is of greatest excess, or nobody is
  met_by : (X : Set) → shortfall A ℓ ≤ excess A ℓ X → Greatest A ℓ (shortfall A ℓ) X ⊎ Greatest A ℓ (shortfall A ℓ) nobody
  unfolding excess
  met_by X h = elim (cases_eq (shortfall A ℓ) 0) [
    | inl z ↦ inr (omega (arith, pairs_nobody A, limit_nobody (nodes A) ℓ))
    | inr d ↦ inl (omega (arith, most X))
  ]

  -- some set has just that
  pub met : (X : Set) × Greatest A ℓ (shortfall A ℓ) X
  met =
      let m = largest_met (nodes A) (excess A ℓ) in
      elim (met_by m.0 (unfold shortfall in omega arith)) [ inl g ↦ (m.0, g) | inr g ↦ (nobody, g) ]

  pub shortfall_is : Shortfall (nodes A) (pairs A) ℓ (shortfall A ℓ)
  shortfall_is = record { most = most; some = met }

  -- sets of greatest excess have such an intersection
  pub meet : (X Y : Set) → Greatest A ℓ (shortfall A ℓ) X → Greatest A ℓ (shortfall A ℓ) Y → Greatest A ℓ (shortfall A ℓ) (X ∩ Y)
  meet X Y x y = omega (arith, pairs_super A X Y, limit_mod (nodes A) ℓ X Y, most (X ∪ Y), most (X ∩ Y))

  without_same : (X : Set) (n : ℕ) → X n ≡ false → Same (nodes A) (clip (nodes A) X ∖ one n) X
  without_same X n h k w = elim (cases_eq k n) [
    | inl e ↦ let x : X k ≡ X n = ap X e in grind (arith, nat_tests)
    | inr d ↦ grind (arith, nat_tests)
  ]

  -- every set of greatest excess holds the block
  pub holds : (X : Set) → Greatest A ℓ (shortfall A ℓ) X → Within (nodes A) (block A ℓ) X
  unfolding block excess
  holds X g n w d = elim (cases_Bool (X n)) [
    | inl x ↦ x
    | inr x ↦
        let m = largest_most (nodes A) (λ Z. excess A ℓ (Z ∖ one n)) (clip (nodes A) X) (clip_only (nodes A) X) in
        let e = excess_same (clip (nodes A) X ∖ one n) X (without_same X n x) in
        absurd (omega (arith, ltb-true _ _ d))
  ]

  -- who is not of the block is not in some set of greatest excess
  avoids : (n : ℕ) → block A ℓ n ≡ false → (X : Set) × Greatest A ℓ (shortfall A ℓ) X × (X n ≡ false)
  unfolding block
  avoids n d =
      let m = largest_met (nodes A) (λ Z. excess A ℓ (Z ∖ one n)) in
      elim (met_by (m.0 ∖ one n) (omega (arith, ltb-false _ _ d))) [
        | inl g ↦ (m.0 ∖ one n, g, and_right (m.0 n) (not (eqb n n)) (not_from_true (eqb n n) (eq-eqb n n refl)))
        | inr g ↦ (nobody, g, refl)
      ]

  smallest : (m : ℕ) → (Z : Set) × Greatest A ℓ (shortfall A ℓ) Z × ((n : ℕ) → n < m → block A ℓ n ≡ false → Z n ≡ false)
  smallest zero = (met.0, met.1, (λ n w d. absurd (omega arith)))
  smallest (suc m) =
      let z = smallest m in
      elim (cases_Bool (block A ℓ m)) [
        | inl d ↦ (z.0, z.1, (λ n w h. elim (cases_eq n m) [ inl e ↦ absurd (true≢false (sym d ∙ ap (block A ℓ) (sym e) ∙ h)) | inr e ↦ z.2 n (omega arith) h ]))
        | inr d ↦
            let x = avoids m d in (
              z.0 ∩ x.0,
              meet z.0 x.0 z.1 x.1,
              (λ n w h. elim (cases_eq n m) [
                | inl e ↦ and_right (z.0 n) (x.0 n) (ap x.0 e ∙ x.2)
                | inr e ↦ and_left (z.0 n) (x.0 n) (z.2 n (omega arith) h)
              ]),
            )
      ]

  pub block_greatest : Greatest A ℓ (shortfall A ℓ) (block A ℓ)
  block_greatest =
      let z = smallest (nodes A) in
      let same : Same (nodes A) (block A ℓ) z.0 = λ n w. same_bool (block A ℓ n) (z.0 n) (holds z.0 z.1 n w)
      (λ h. elim (cases_Bool (block A ℓ n)) [ inl d ↦ d | inr d ↦ absurd (true≢false (sym h ∙ z.2 n w d)) ]) in
      omega (arith, z.1, pairs_same A (block A ℓ) z.0 same, limit_same (nodes A) ℓ (block A ℓ) z.0 same)

  -- a set without a member of the block has a smaller excess
  less : (X : Set) (n : ℕ) → n < nodes A → block A ℓ n ≡ true → X n ≡ false → pairs A X < limit (nodes A) ℓ X + shortfall A ℓ
  less X n w d x = elim (cases_lt (pairs A X) (limit (nodes A) ℓ X + shortfall A ℓ)) [
    | inl lt ↦ lt
    | inr le ↦ absurd (true≢false (sym (holds X (omega (arith, most X)) n w d) ∙ x))
  ]

  pub exists : Block (nodes A) (pairs A) ℓ (block A ℓ)
  exists = record {
    inside = λ U within n w u.
        let d = within n w u in
        omega (
          arith,
          less (block A ℓ ∖ U) n w d (and_right (block A ℓ n) (not (U n)) (not_from_true (U n) u)),
          block_greatest,
          limit_part (nodes A) ℓ (block A ℓ) U within,
        );
    outside = λ U apart.
        omega (arith, block_greatest, most (block A ℓ ∪ U), limit_join (nodes A) ℓ (block A ℓ) U apart);
  }

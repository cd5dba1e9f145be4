-- What one added pair does at one level: the shortfall and the block.
use Rattle.std.proofs.Common.{◌≡◌, ℕ, ◌+◌, ◌-◌, ◌<◌, ◌≤◌, Bool, true, false, not, ◌&&◌, ◌||◌, eqb, sym, ap, ◌∙◌, inl, inr, arith}
use Rattle.std.proofs.lemmas.Bool.{cases_Bool, cases_eq, cases_lt, and_parts, and_from, and_cases, not-false, true≢false, or_left, not-true, not_from_false, eqb-true, or_cases}
use Rattle.std.proofs.lemmas.Bool.Decides.{nat_tests}
use Rattle.blocks.specs.Sums.{sum, bit}
use Rattle.blocks.specs.Sets.{Set, ◌∪◌, ◌∖◌, one, Within, Apart, Same}
use Rattle.blocks.specs.Limits.{limit}
use Rattle.blocks.specs.Yards.{Yard, nodes, pairs, add}
use Rattle.blocks.specs.Blocks.{shortfall, block}
use Rattle.blocks.proofs.Sums.{sum_cong, sum_one}
use Rattle.blocks.proofs.Pairs.{counts, pairs-le₂, limit_lt, limit_join}
use Rattle.blocks.proofs.Compare.{same_bool, monotone}
use Rattle.blocks.proofs.Exists.{Greatest, most, holds, block_greatest, exists}
use Rattle.blocks.proofs.Buses.{degree, degree_le, limit_one, pairs_bus_in, bus_in, bus_from}
use Rattle.blocks.proofs.Levels.{Rise, rise_le}

-- does X hold both ends of the pair?
abbrev pub both : Yard → ℕ → ℕ → Set → Bool
both A b p X = X b && X (A.buses + p)

other : (e : Bool) (i j b p : ℕ) → ((i ≡ b) × (j ≡ p) → ⊥) → (e || (eqb i b && eqb j p)) ≡ e
other e i j b p d = elim (cases_eq i b) [
  | inl x ↦ elim (cases_eq j p) [ inl y ↦ absurd (d (x, y)) | inr y ↦ grind (arith, nat_tests) ]
  | inr x ↦ grind (arith, nat_tests)
]

now_counts : (e t : Bool) (b p : ℕ) → e ≡ false → bit ((e || (eqb b b && eqb p p)) && t) ≡ bit (e && t) + bit t
now_counts e t b p h = grind (arith, nat_tests)

was_none : (e t : Bool) → e ≡ false → bit (e && t) ≡ 0
was_none e t h = grind arith

module _ (A : Yard) (b p : ℕ) (bus : b < A.buses) (post : p < A.posts) (fresh : A.paired b p ≡ false) where
  pub pairs_added : (X : Set) → pairs (add b p A) X ≡ pairs A X + bit (both A b p X)
  unfolding pairs
  pairs_added X =
      let B = A.buses in
      let e : ℕ → ℕ → Bool = (add b p A).paired in
      let f : ℕ → ℕ = λ i. sum A.posts (counts B e X i) in
      let g : ℕ → ℕ = λ i. sum A.posts (counts B A.paired X i) in
      let outer : sum B f + g b ≡ sum B g + f b = sum_one B f g b bus (λ i w d. sum_cong A.posts _ _ (λ j v. ap (λ t. bit (t && (X i && X (B + j)))) (other (A.paired i j) i j b p (λ h. d h.0)))) in
      let inner : f b + counts B A.paired X b p ≡ g b + counts B e X b p = sum_one A.posts (counts B e X b) (counts B A.paired X b) p post (λ j v d. ap (λ t. bit (t && (X b && X (B + j)))) (other (A.paired b j) b j b p (λ h. d h.1))) in
      omega (arith, now_counts (A.paired b p) (both A b p X) b p fresh, was_none (A.paired b p) (both A b p X) fresh)

  pub pairs_kept : (i j : ℕ) → i < A.buses → j < A.posts → A.paired i j ≡ true → (add b p A).paired i j ≡ true
  pairs_kept i j w v h = or_left (A.paired i j) (eqb i b && eqb j p) h

  module _ (ℓ : ℕ → ℕ) where
    -- the block grows
    pub grows : Within (nodes A) (block A ℓ) (block (add b p A) ℓ)
    grows = monotone A.buses A.posts A.paired (add b p A).paired ℓ (block A ℓ) (block (add b p A) ℓ) pairs_kept (exists A ℓ) (exists (add b p A) ℓ)

    not_less : shortfall A ℓ ≤ shortfall (add b p A) ℓ
    not_less = omega (arith, most (add b p A) ℓ (block A ℓ), block_greatest A ℓ, pairs_added (block A ℓ))

    at_most : shortfall (add b p A) ℓ ≤ shortfall A ℓ + bit (both A b p (block (add b p A) ℓ))
    at_most = omega (arith, block_greatest (add b p A) ℓ, most A ℓ (block (add b p A) ℓ), pairs_added (block (add b p A) ℓ))

    -- where the shortfall is what it was, the block was of greatest excess and still is
    still : shortfall (add b p A) ℓ ≤ shortfall A ℓ → Within (nodes A) (block (add b p A) ℓ) (block A ℓ)
    still h = holds (add b p A) ℓ (block A ℓ) (omega (arith, not_less, block_greatest A ℓ, pairs_added (block A ℓ), most (add b p A) ℓ (block A ℓ)))

    -- the shortfall rises by one just where the new block holds both ends
    pub sharp : shortfall (add b p A) ℓ ≡ shortfall A ℓ + bit (both A b p (block (add b p A) ℓ))
    sharp = elim (cases_Bool (both A b p (block (add b p A) ℓ))) [
      | inr no-ends ↦ omega (arith, not_less, at_most, ap bit no-ends)
      | inl ends ↦ elim (cases_lt (shortfall A ℓ) (shortfall (add b p A) ℓ)) [
        | inl lt ↦ omega (arith, at_most, ap bit ends)
        | inr le ↦
            let two = and_parts (block (add b p A) ℓ b) (block (add b p A) ℓ (A.buses + p)) ends in
            let had : both A b p (block A ℓ) ≡ true = and_from (block A ℓ b) (block A ℓ (A.buses + p)) (still le b (omega arith) two.0) (still le (A.buses + p) (omega arith) two.1) in
            absurd (omega (arith, ap bit had, pairs_added (block A ℓ), block_greatest A ℓ, most (add b p A) ℓ (block A ℓ)))
      ]
    ]

    same_without : both A b p (block (add b p A) ℓ) ≡ false → Same (nodes A) (block (add b p A) ℓ) (block A ℓ)
    same_without h n w = same_bool (block (add b p A) ℓ n) (block A ℓ n) (still (omega (arith, sharp, ap bit h)) n w) (grows n w)

    same_with : both A b p (block A ℓ) ≡ true → Same (nodes A) (block (add b p A) ℓ) (block A ℓ)
    same_with h n w =
        same_bool (block (add b p A) ℓ n) (block A ℓ n)
        (holds (add b p A) ℓ (block A ℓ) (omega (arith, not_less, pairs_added (block A ℓ), ap bit h, block_greatest A ℓ, most (add b p A) ℓ (block A ℓ), sharp, bit_one (both A b p (block (add b p A) ℓ)))) n w)
        (grows n w)
      where
        bit_one : (t : Bool) → bit t ≤ 1
        bit_one t = grind arith

    -- the level changes: its block takes in one end of the pair at least, and then has both
    pub changed : Bool
    changed = both A b p (block (add b p A) ℓ) && not (both A b p (block A ℓ))

    pub unchanged : changed ≡ false → Same (nodes A) (block (add b p A) ℓ) (block A ℓ)
    unfolding changed
    unchanged h = elim (and_cases (both A b p (block (add b p A) ℓ)) (not (both A b p (block A ℓ))) h) [
      | inl x ↦ same_without x
      | inr x ↦ same_with (not-false (both A b p (block A ℓ)) x)
    ]

  -- From the limits ℓ to higher limits m: what the new block of m holds, the old block of ℓ held, but for the bus b.
  module _ (ℓ m : ℕ → ℕ) (rise : Rise A.buses A.posts ℓ m) where
    bool_step : (e x y d c : Bool) → bit (e && (x && y)) + bit (e && (d && c)) ≤ bit (e && ((d || (x && not d)) && (c || (y && not c)))) + bit (e && ((x && not (x && not d)) && (y && not (y && not c))))
    bool_step e x y d c = grind arith

    bit_one : (t : Bool) → bit t ≤ 1
    bit_one t = grind arith

    step_post : (q : ℕ) → q < A.posts → block (add b p A) m (A.buses + q) ≡ true → block A ℓ (A.buses + q) ≡ true
    step_post q w x = elim (cases_Bool (block A ℓ (A.buses + q))) [
      | inl d ↦ d
      | inr d ↦
          let N : ℕ = nodes A in
          let n : ℕ = A.buses + q in
          let X : Set = block (add b p A) m in
          let D : Set = block A ℓ in
          let within : Within N (X ∖ D) X = λ k _ h. (and_parts (X k) (not (D k)) h).0 in
          let apart : Apart N (X ∖ D) D = λ k _ h. not-true (D k) (and_parts (X k) (not (D k)) h).1 in
          let holds-n : (X ∖ D) n ≡ true = and_from (X n) (not (D n)) x (not_from_false (D n) d) in
          let lose = (exists (add b p A) m).inside (X ∖ D) within n (omega arith) holds-n in
          let gain = (exists A ℓ).outside (X ∖ D) apart in
          let higher = limit_lt N ℓ m (X ∖ D) n (omega arith) holds-n (rise_le A.buses A.posts ℓ m rise) (rise.post q w) in
          let points = pairs-le₂ A.buses A.posts A.paired A.paired A.paired A.paired X D (D ∪ (X ∖ D)) (X ∖ (X ∖ D))
          (λ i j v u. bool_step (A.paired i j) (X i) (X (A.buses + j)) (D i) (D (A.buses + j))) in
          absurd (omega (arith, pairs_added X, pairs_added (X ∖ (X ∖ D)), bit_one (both A b p X)))
    ]

    degree_same : (n : ℕ) (X : Set) → (n ≡ b → ⊥) → degree (add b p A) n X ≡ degree A n X
    unfolding degree
    degree_same n X d = sum_cong A.posts _ _ (λ j v. ap (λ t. bit (t && X (A.buses + j))) (other (A.paired n j) n j b p (λ h. d h.0)))

    step_bus : (n : ℕ) → n < A.buses → (n ≡ b → ⊥) → block (add b p A) m n ≡ true → block A ℓ n ≡ true
    step_bus n w d x =
        let over = bus_in (add b p A) n w m (block (add b p A) m) (exists (add b p A) m) x in
        let same = degree_same n (block (add b p A) m) d in
        let less = degree_le A n (block (add b p A) m) (block A ℓ) step_post in
        bus_from A n w ℓ (block A ℓ) (exists A ℓ) (omega (arith, rise.bus n w))

    pub step : (n : ℕ) → n < nodes A → (n ≡ b → ⊥) → block (add b p A) m n ≡ true → block A ℓ n ≡ true
    step n w d x = elim (cases_lt n A.buses) [
      | inl v ↦ step_bus n v d x
      | inr v ↦
          let e : A.buses + (n - A.buses) ≡ n = omega arith in
          sym (ap (block A ℓ) e) ∙ step_post (n - A.buses) (omega arith) (ap (block (add b p A) m) e ∙ x)
    ]

    -- where both levels change, the lower block takes in the bus b alone
    pub common : changed ℓ ≡ true → changed m ≡ true → (n : ℕ) → n < nodes A → (n ≡ b → ⊥) → block (add b p A) ℓ n ≡ true → block A ℓ n ≡ true
    unfolding changed
    common low high n w d x =
        let D : Set = block A ℓ in
        let ends : both A b p (block (add b p A) m) ≡ true = (and_parts (both A b p (block (add b p A) m)) (not (both A b p (block A m))) high).0 in
        let two = and_parts (block (add b p A) m b) (block (add b p A) m (A.buses + p)) ends in
        let q-in : D (A.buses + p) ≡ true = step_post p post two.1 in
        let b-out : D b ≡ false = elim (cases_Bool (D b)) [
          | inl y ↦ absurd (true≢false (sym (and_parts (both A b p (block (add b p A) ℓ)) (not (both A b p D)) low).1 ∙ ap not (and_from (D b) (D (A.buses + p)) y q-in)))
          | inr y ↦ y
        ] in
        let over = bus_in (add b p A) b bus m (block (add b p A) m) (exists (add b p A) m) two.0 in
        let less = degree_le (add b p A) b (block (add b p A) m) D step_post in
        let more = pairs_bus_in (add b p A) b bus D b-out in
        let limits : limit (nodes A) ℓ (D ∪ one b) ≡ limit (nodes A) ℓ D + ℓ b =
        omega (arith, limit_join (nodes A) ℓ D (one b) (λ k _ e. ap D (eqb-true k b e) ∙ b-out), limit_one (nodes A) ℓ b (omega arith)) in
        let greatest : Greatest (add b p A) ℓ (shortfall (add b p A) ℓ) (D ∪ one b) =
        omega (arith, rise.bus b bus, block_greatest A ℓ, pairs_added D, most (add b p A) ℓ (D ∪ one b), sharp ℓ, bit_one (both A b p (block (add b p A) ℓ))) in
        let in-it = holds (add b p A) ℓ (D ∪ one b) greatest n w x in
        elim (or_cases (D n) (eqb n b) in-it) [ inl y ↦ y | inr y ↦ absurd (d (eqb-true n b y)) ]

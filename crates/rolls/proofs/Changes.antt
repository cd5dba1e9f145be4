-- What an entry put in, taken out or changed leaves.
use Rattle.std.proofs.Common.{◌≡◌, ℕ, zero, suc, ◌+◌, ◌<◌, ◌≤◌, false, cond, List, [], ◌∷◌, length, get_or, set, None, refl, inl, inr, arith}
use Rattle.std.specs.List.{All, AllPairs, AllWithin, HoldsAt, insert, remove}
use Rattle.std.proofs.lemmas.Bool.{cases_lt}
use Rattle.std.proofs.lemmas.Bool.Decides.{nat_tests}
use Rattle.std.proofs.lemmas.Grind.{common_steps}
use Rattle.std.proofs.lemmas.List.{length-set}
use Rattle.std.proofs.lemmas.List.Elements.{All-cons, All-take, All-drop, All-append}
use Rattle.std.proofs.lemmas.List.Kept.{AllPairs-cons}
use Rattle.std.proofs.lemmas.List.Quantifiers.{all_pairs_remove}
use Rattle.stores.specs.declared.pairs.Pair.{Pair}
use Rattle.stores.specs.declared.pairs.Side.{Side}
use Rattle.stores.specs.Meaning.{carried, put}
use Rattle.stores.specs.Meanings.{same_meaning}
use Rattle.rolls.specs.declared.Entry.{Entry}
use Rattle.rolls.specs.Rolls.{Ascending, Inside, Here, Gap, Precedes, Within, names, standing, meaning}
use Rattle.rolls.specs.Entries.{standing_free}
use Rattle.rolls.proofs.Places.{apart, flipped}

module _ {X : Type 0} where
  pub all_insert : (P : X → Type 0) (xs : List X) (i : ℕ) (y : X) → P y → All P xs → All P (insert xs i y)
  all_insert P xs i y one all = All-append P _ _ (All-take P i xs all) (All-cons P y _ one (All-drop P i xs all))

  pub all_remove : (P : X → Type 0) (xs : List X) (i : ℕ) → All P xs → All P (remove xs i)
  all_remove P xs i all = All-append P _ _ (All-take P i xs all) (All-drop P (suc i) xs all)

  pub all_pairs_insert : (R : X → X → Type 0) (xs : List X) (i : ℕ) (y : X) → i ≤ length xs → AllPairs R xs
      → AllWithin (λ x. R x y) xs 0 i → AllWithin (λ x. R y x) xs i (length xs) → AllPairs R (insert xs i y)
  all_pairs_insert R xs zero y within all below above = AllPairs-cons R y xs (λ k d h. above k d (omega arith) h) all
  all_pairs_insert R [] (suc i) y within all below above = absurd (omega arith)
  all_pairs_insert R (x ∷ xs) (suc i) y within all below above = AllPairs-cons R x (insert xs i y)
      (all_insert (R x) xs i y (below 0 x (omega arith) (omega arith)) (λ k d h. all 0 (suc k) d (omega arith) (omega arith)))
      (all_pairs_insert R xs i y (omega arith) (λ j k d lt h. all (suc j) (suc k) d (omega arith) (omega arith))
      (λ k d lo hi. below (suc k) d (omega arith) (omega arith)) (λ k d lo hi. above (suc k) d (omega arith) (omega arith)))

-- none of the entries from one place to another is of this pair
abbrev Free : List Entry → Pair → ℕ → ℕ → Type 0
Free xs q low high = AllWithin (λ x. names x.pair q.bus q.post ≡ false) xs low high

standing_insert : (xs : List Entry) (i : ℕ) (e : Entry) (b p : ℕ) → Free xs e.pair 0 i
    → standing (insert xs i e) b p ≡ cond (names e.pair b p) (carried e.side) (standing xs b p)
unfolding standing
standing_insert [] zero e b p free = refl
standing_insert [] (suc i) e b p free = refl
standing_insert (x ∷ xs) zero e b p free = refl
standing_insert (x ∷ xs) (suc i) e b p free =
    grind (arith, nat_tests, free 0 x (omega arith) (omega arith), standing_insert xs i e b p (λ k d h w. free (suc k) d (omega arith) (omega arith)))

standing_set : (xs : List Entry) (i : ℕ) (e : Entry) (b p : ℕ) → i < length xs → HoldsAt (λ x. x.pair ≡ e.pair) xs i → Free xs e.pair 0 i
    → standing (set xs i e) b p ≡ cond (names e.pair b p) (carried e.side) (standing xs b p)
unfolding standing
standing_set [] i e b p within here free = absurd (omega arith)
standing_set (x ∷ xs) zero e b p within here free = grind (arith, nat_tests, here x)
standing_set (x ∷ xs) (suc i) e b p within here free =
    grind (arith, nat_tests, free 0 x (omega arith) (omega arith), standing_set xs i e b p (omega arith) here (λ k d h w. free (suc k) d (omega arith) (omega arith)))

standing_remove : (xs : List Entry) (i : ℕ) (q : Pair) (b p : ℕ) → i < length xs → HoldsAt (λ x. x.pair ≡ q) xs i → Free xs q 0 i → Free xs q (i + 1) (length xs)
    → standing (remove xs i) b p ≡ cond (names q b p) None (standing xs b p)
unfolding standing
standing_remove [] i q b p within here free rest = absurd (omega arith)
standing_remove (x ∷ xs) zero q b p within here free rest =
    grind (arith, nat_tests, here x, standing_free xs q.bus q.post (λ k d h. rest (suc k) d (omega arith) (omega arith)))
standing_remove (x ∷ xs) (suc i) q b p within here free rest =
    grind (
      arith,
      nat_tests,
      free 0 x (omega arith) (omega arith),
      standing_remove xs i q b p (omega arith) here
          (λ k d h w. free (suc k) d (omega arith) (omega arith)) (λ k d h w. rest (suc k) d (omega arith) (omega arith)),
    )

standing_at : (xs : List Entry) (i : ℕ) (q : Pair) (d : Entry) → i < length xs → HoldsAt (λ x. x.pair ≡ q) xs i → Free xs q 0 i
    → standing xs q.bus q.post ≡ carried (get_or xs i d).side
unfolding standing
standing_at [] i q d within here free = absurd (omega arith)
standing_at (x ∷ xs) zero q d within here free = grind (arith, nat_tests, here x)
standing_at (x ∷ xs) (suc i) q d within here free =
    grind (arith, nat_tests, free 0 x (omega arith) (omega arith), standing_at xs i q d (omega arith) here (λ k d h w. free (suc k) d (omega arith) (omega arith)))

-- a pair that no entry is of
module _ (xs : List Entry) (q : Pair) (i : ℕ) (gap : Gap xs q i) where
  pub gap_absent : standing xs q.bus q.post ≡ None
  gap_absent = standing_free xs q.bus q.post (λ k d h. elim (cases_lt k i) [
    | inl lt ↦ (apart _ q (gap.parts.0 k d (omega arith) lt)).0
    | inr ge ↦ (apart q _ (flipped _ q (gap.parts.1 k d ge h))).1
  ])

  module _ (side : Side) where
    pub inserted_ascending : (ys : List Entry) → ys ≡ insert xs i (record { pair = q; side = side }) → Ascending xs → Ascending ys
    inserted_ascending ys after asc =
        rw after (all_pairs_insert Precedes xs i _ gap.within asc gap.parts.0 (λ k d lo hi. flipped _ q (gap.parts.1 k d lo hi)))

    pub inserted_inside : (ys : List Entry) (buses posts : ℕ) → ys ≡ insert xs i (record { pair = q; side = side })
        → q.bus < buses → q.post < posts → Inside xs buses posts → Inside ys buses posts
    inserted_inside ys buses posts after bus post inside = rw after (all_insert (Within buses posts) xs i _ (bus, post) inside)

    pub inserted_means : (buses posts : ℕ) → meaning (insert xs i (record { pair = q; side = side })) buses posts ≡ put q.bus q.post (carried side) (meaning xs buses posts)
    inserted_means buses posts = same_meaning _ _ refl refl
        (λ c p. standing_insert xs i (record { pair = q; side = side }) c p (λ k d lo hi. (apart _ q (gap.parts.0 k d lo hi)).0))

-- a pair that an entry is of
module _ (xs : List Entry) (asc : Ascending xs) (q : Pair) (i : ℕ) (here : Here xs q i) where
  before : Free xs q 0 i
  before k d lo hi = grind (arith, nat_tests, asc k i d hi here.within, here.same d)

  behind : Free xs q (i + 1) (length xs)
  behind k d lo hi = grind (arith, nat_tests, asc i k d (omega arith) hi, here.same d)

  pub here_carried : (d : Entry) → standing xs q.bus q.post ≡ carried (get_or xs i d).side
  here_carried d = standing_at xs i q d here.within here.same before

  pub removed_ascending : (ys : List Entry) → ys ≡ remove xs i → Ascending ys
  removed_ascending ys after = rw after (all_pairs_remove Precedes xs i here.within asc)

  pub removed_inside : (ys : List Entry) (buses posts : ℕ) → ys ≡ remove xs i → Inside xs buses posts → Inside ys buses posts
  removed_inside ys buses posts after inside = rw after (all_remove (Within buses posts) xs i inside)

  pub removed_means : (buses posts : ℕ) → meaning (remove xs i) buses posts ≡ put q.bus q.post None (meaning xs buses posts)
  removed_means buses posts = same_meaning _ _ refl refl (λ c p. standing_remove xs i q c p here.within here.same before behind)

  module _ (side : Side) where
    set_pair : (k : ℕ) (d : Entry) → (get_or (set xs i (record { pair = q; side = side })) k d).pair ≡ (get_or xs k d).pair
    set_pair k d = grind (arith, common_steps, here.same d, here.within)

    pub turned_ascending : Ascending (set xs i (record { pair = q; side = side }))
    turned_ascending j k d lt w =
        let long = length-set xs i (record { pair = q; side = side }) in
        rw (set_pair j d, set_pair k d) (asc j k d lt (omega arith))

    pub turned_means : (buses posts : ℕ) → meaning (set xs i (record { pair = q; side = side })) buses posts ≡ put q.bus q.post (carried side) (meaning xs buses posts)
    turned_means buses posts = same_meaning _ _ refl refl (λ c p. standing_set xs i (record { pair = q; side = side }) c p here.within here.same before)

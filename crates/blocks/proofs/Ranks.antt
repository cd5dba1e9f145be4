-- What a rank says of the blocks, and the level at which no block is left.
use Rattle.std.proofs.Common.{◌≡◌, ℕ, zero, suc, ◌<◌, ◌≤◌, Bool, true, false, ltb, pos, negsuc, ◌+ℤ◌, ◌≤ℤ◌, sym, refl, ap, ◌∙◌, inl, inr, add-one, arith, le→leb, leb→le}
use Rattle.std.proofs.lemmas.Bool.{cases_Bool, cases_eq, cases_lt, true≢false, lt-ltb, le-ltb, ltb-true}
use Rattle.blocks.specs.Limits.{Limits, Rising, limit_at}
use Rattle.blocks.specs.Yards.{Yard, nodes}
use Rattle.blocks.specs.Blocks.{block_at}
use Rattle.blocks.specs.Theorems.{RankTells}
use Rattle.blocks.specs.Ranks.{height, rank_plus_one, minus_one, rank}
use Rattle.blocks.proofs.Compare.{nested}
use Rattle.blocks.proofs.Exists.{exists}
use Rattle.blocks.proofs.Levels.{level_nested, at_bus}
use Rattle.blocks.proofs.Buses.{degree, bus_in, bus_from}
use Rattle.blocks.proofs.Heights.{height_top, height_above, height_passes, height_at_least, height_at_most, height_le}

pub minus_one_more : (a : ℕ) → minus_one a +ℤ pos 1 ≡ minus_one (suc a)
minus_one_more zero = refl
minus_one_more (suc a) = ap pos (add-one a)

pub minus_one_le : (a c : ℕ) → a ≤ c → minus_one a ≤ℤ minus_one c
minus_one_le zero zero h = record { le = tt }
minus_one_le zero (suc c) h = record { le = tt }
minus_one_le (suc a) zero h = absurd (omega arith)
minus_one_le (suc a) (suc c) h = record { le = le→leb a c (omega arith) }

minus_one_above : (a h : ℕ) → pos a ≤ℤ minus_one h → a < h
minus_one_above a zero e = absurd e.le
minus_one_above a (suc h) e = let l : a ≤ h = leb→le a h e.le in omega arith

module _ (A : Yard) (L : Limits) (rising : Rising L) where
  -- the block of the level a holds the nodes of rank a and more
  pub rank_block : (a n : ℕ) → a < 256 → n < nodes A → block_at A L a n ≡ ltb a (rank_plus_one A L n)
  unfolding rank_plus_one
  rank_block a n w v = elim (cases_lt a (height 256 (λ c. block_at A L c n))) [
    | inl lt ↦ reached (height 256 (λ c. block_at A L c n)) refl lt ∙ sym (lt-ltb a _ lt)
    | inr le ↦ height_above 256 (λ c. block_at A L c n) a w le ∙ sym (le-ltb a _ le)
  ]
    where
      reached : (h : ℕ) → height 256 (λ c. block_at A L c n) ≡ h → a < h → block_at A L a n ≡ true
      reached zero e lt = absurd (omega arith)
      reached (suc x) e lt = elim (cases_eq a x) [
        | inl y ↦ ap (λ c. block_at A L c n) y ∙ height_passes 256 (λ c. block_at A L c n) x e
        | inr y ↦ level_nested A L rising a x (omega arith) (omega (arith, height_top 256 (λ c. block_at A L c n))) n v (height_passes 256 (λ c. block_at A L c n) x e)
      ]

  -- only the levels below one whose block does not hold n matter
  pub rank_soon : (t n : ℕ) → t ≤ 256 → n < nodes A → block_at A L t n ≡ false → rank_plus_one A L n ≡ height t (λ a. block_at A L a n)
  unfolding rank_plus_one
  rank_soon t n w v out =
      let s : ℕ → Bool = λ a. block_at A L a n in
      let gone : (a : ℕ) → a < 256 → t ≤ a → s a ≡ false = λ a u h. elim (cases_eq a t) [
        | inl y ↦ ap s y ∙ out
        | inr y ↦ elim (cases_Bool (s a)) [
          | inl z ↦ absurd (true≢false (sym (level_nested A L rising t a (omega arith) (omega arith) n v z) ∙ out))
          | inr z ↦ z
        ]
      ] in
      let up : height 256 s ≤ height t s = height_at_most 256 s (height t s) (λ a u h. elim (cases_lt a t) [ inl y ↦ height_above t s a y h | inr y ↦ gone a u y ]) in
      let down : height t s ≤ height 256 s = height_at_most t s (height 256 s) (λ a u h. height_above 256 s a (omega arith) h) in
      omega arith

  pub rank_is : (a n : ℕ) → a < 256 → n < nodes A → block_at A L a n ≡ true → block_at A L (suc a) n ≡ false → rank A L n ≡ pos a
  unfolding rank
  rank_is a n w v yes-a no_more =
      let e = rank_soon (suc a) n (omega arith) v no_more in
      let h : height (suc a) (λ c. block_at A L c n) ≡ suc a = omega (arith, height_top (suc a) (λ c. block_at A L c n), height_at_least (suc a) (λ c. block_at A L c n) a (omega arith) yes-a) in
      ap minus_one (e ∙ h)

  pub rank_none : (n : ℕ) → n < nodes A → block_at A L 0 n ≡ false → rank A L n ≡ negsuc 0
  unfolding rank height
  rank_none n v out = ap minus_one (rank_soon 0 n (omega arith) v out)

  -- a bus has rank a at least just where it has more than its limit of pairs with posts of such rank
  pub bus_rank : (a b : ℕ) → b < A.buses → (block_at A L a b ≡ true → L.bus b < degree A b (block_at A L a)) × (L.bus b < degree A b (block_at A L a) → block_at A L a b ≡ true)
  bus_rank a b w = (
    (λ d. omega (arith, at_bus A L a b w, bus_in A b w (limit_at A.buses L a) (block_at A L a) (exists A (limit_at A.buses L a)) d)),
    (λ h. bus_from A b w (limit_at A.buses L a) (block_at A L a) (exists A (limit_at A.buses L a)) (omega (arith, at_bus A L a b w))),
  )

-- with no lower limit no rank is higher
pub rank_lower : (A : Yard) (K L : Limits) → ((a n : ℕ) → a < 256 → n < nodes A → limit_at A.buses K a n ≤ limit_at A.buses L a n)
    → (n : ℕ) → n < nodes A → rank_plus_one A L n ≤ rank_plus_one A K n
unfolding rank_plus_one
rank_lower A K L le n w = height_le 256 _ _ (λ a v. nested A (limit_at A.buses L a) (limit_at A.buses K a) (block_at A L a) (block_at A K a) (λ k u. le a k v u) (exists A (limit_at A.buses L a)) (exists A (limit_at A.buses K a)) n w)

pub rank_tells : RankTells 255
unfolding rank
rank_tells A L rising a n w v =
    let e = rank_block A L rising a n (omega arith) v in (
      (λ d. minus_one_le (suc a) (rank_plus_one A L n) (let lt = ltb-true a (rank_plus_one A L n) (sym e ∙ d) in omega arith)),
      (λ r. e ∙ lt-ltb a (rank_plus_one A L n) (minus_one_above a (rank_plus_one A L n) r)),
    )

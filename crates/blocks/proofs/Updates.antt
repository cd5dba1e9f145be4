-- What one added or dropped pair does to the ranks.
use Rattle.std.proofs.Common.{◌≡◌, ℕ, zero, suc, ◌+◌, ◌<◌, ◌≤◌, Bool, true, false, not, ◌&&◌, ◌||◌, eqb, ◌⊎◌, pos, sym, refl, ap, ◌∙◌, subst, ap₂, inl, inr, arith}
use mathlib.Core.Path.{fun_ext}
use Rattle.std.proofs.lemmas.Bool.{cases_Bool, cases_eq, true≢false}
use Rattle.std.proofs.lemmas.Bool.Decides.{nat_tests}
use Rattle.blocks.specs.Sums.{bit}
use Rattle.blocks.specs.Limits.{Limits, Rising, limit_at}
use Rattle.blocks.specs.Yards.{Yard, nodes, add, drop}
use Rattle.blocks.specs.Blocks.{shortfall, block, block_at}
use Rattle.blocks.specs.Ranks.{height, rank_plus_one, minus_one, rank, Raised}
use Rattle.blocks.specs.Theorems.{ShortfallAdded, ShortfallDropped, RanksAdded, RanksDropped}
use Rattle.blocks.proofs.Compare.{same_bool}
use Rattle.blocks.proofs.Levels.{level_rise, level_nested}
use Rattle.blocks.proofs.Ranks.{minus_one_more, minus_one_le}
use Rattle.blocks.proofs.Added.{grows, sharp, changed, unchanged, step, common}
use Rattle.blocks.proofs.Heights.{height_top, height_passes, height_at_least, height_at_most, height_le, height_same}

module _ (A : Yard) (L : Limits) (rising : Rising L) (b p : ℕ) (bus : b < A.buses) (post : p < A.posts) (fresh : A.paired b p ≡ false) where
  -- does the block of level a change?
  moves : ℕ → Bool
  moves a = changed A b p bus post fresh (limit_at A.buses L a)

  -- the highest level that changes is top − 1
  top : ℕ
  top = height 256 moves

  -- at every other level the block is what it was, but for b
  elsewhere : (a : ℕ) → a < 256 → (suc a ≡ top → ⊥) → (n : ℕ) → n < nodes A → (n ≡ b → ⊥) → block_at (add b p A) L a n ≡ block_at A L a n
  unfolding moves top
  elsewhere a w d n v c = elim (cases_Bool (moves a)) [
    | inr still ↦ unchanged A b p bus post fresh (limit_at A.buses L a) still n v
    | inl low ↦ above low (top) refl
  ]
    where
      above : moves a ≡ true → (h : ℕ) → top ≡ h → block_at (add b p A) L a n ≡ block_at A L a n
      above low zero e = absurd (omega (arith, height_at_least 256 moves a w low))
      above low (suc x) e =
          let high : moves x ≡ true = height_passes 256 moves x e in
          let lt : a < x = omega (arith, height_at_least 256 moves a w low) in
          let top-x : x < 256 = omega (arith, height_top 256 moves) in
          same_bool (block_at (add b p A) L a n) (block_at A L a n)
          (common A b p bus post fresh (limit_at A.buses L a) (limit_at A.buses L x) (level_rise A L rising a x lt (omega arith)) low high n v c)
          (grows A b p bus post fresh (limit_at A.buses L a) n v)

  -- a node other than b that enters the block of x, the highest level that changes, goes from x − 1 to x
  enters : (x : ℕ) → top ≡ suc x → (n : ℕ) → n < nodes A → (n ≡ b → ⊥) → block_at A L x n ≡ false → block_at (add b p A) L x n ≡ true
      → (rank_plus_one A L n ≡ x) × (rank_plus_one (add b p A) L n ≡ suc x)
  unfolding rank_plus_one top moves
  enters x e n w c out into =
      let below : x < 256 = omega (arith, height_top 256 moves) in
      let old : ℕ → Bool = λ a. block_at A L a n in
      let new : ℕ → Bool = λ a. block_at (add b p A) L a n in
      let gone : (a : ℕ) → a < 256 → x ≤ a → old a ≡ false = λ a v h. elim (cases_eq a x) [
        | inl y ↦ ap old y ∙ out
        | inr y ↦ elim (cases_Bool (old a)) [
          | inl z ↦ absurd (true≢false (sym (level_nested A L rising x a (omega arith) (omega arith) n w z) ∙ out))
          | inr z ↦ z
        ]
      ] in
      let old-most : height 256 old ≤ x = height_at_most 256 old x gone in
      let new-most : height 256 new ≤ suc x = height_at_most 256 new (suc x) (λ a v h. elsewhere a v (λ y. omega arith) n w c ∙ gone a v (omega arith)) in
      let new-least : x < height 256 new = height_at_least 256 new x below into in
      (omega (arith, old_least x below into), omega arith)
    where
      old_least : (y : ℕ) → y < 256 → block_at (add b p A) L y n ≡ true → y ≤ height 256 (λ a. block_at A L a n)
      old_least zero v h = omega arith
      old_least (suc y) v h =
          height_at_least 256 (λ a. block_at A L a n) y (omega arith)
          (step A b p bus post fresh (limit_at A.buses L y) (limit_at A.buses L (suc y)) (level_rise A L rising y (suc y) (omega arith) (omega arith)) n w c h)

  -- a node other than b keeps its rank, or goes up by one, from one common rank
  ups : (h : ℕ) → top ≡ h → (k : ℕ) × ((n : ℕ) → n < nodes A → (n ≡ b → ⊥) → (rank_plus_one (add b p A) L n ≡ rank_plus_one A L n) ⊎ ((rank_plus_one A L n ≡ k) × (rank_plus_one (add b p A) L n ≡ suc k)))
  unfolding rank_plus_one
  ups zero e = (0, λ n w c. inl (height_same 256 _ _ (λ a v. elsewhere a v (λ y. omega arith) n w c)))
  ups (suc x) e = (
    x,
    λ n w c.
        let kept : block_at (add b p A) L x n ≡ block_at A L x n → height 256 (λ a. block_at (add b p A) L a n) ≡ height 256 (λ a. block_at A L a n) =
        λ same. height_same 256 _ _ (λ a v. elim (cases_eq a x) [
          | inl y ↦ ap (λ z. block_at (add b p A) L z n) y ∙ same ∙ ap (λ z. block_at A L z n) (sym y)
          | inr y ↦ elsewhere a v (λ z. y (omega arith)) n w c
        ]) in
        elim (cases_Bool (block_at A L x n)) [
          | inl old ↦ inl (kept (grows A b p bus post fresh (limit_at A.buses L x) n w old ∙ sym old))
          | inr old ↦ elim (cases_Bool (block_at (add b p A) L x n)) [
            | inl new ↦ inr (enters x e n w c old new)
            | inr new ↦ inl (kept (new ∙ sym old))
          ]
        ],
  )

  -- b does not fall
  named_le : rank_plus_one A L b ≤ rank_plus_one (add b p A) L b
  unfolding rank_plus_one
  named_le = height_le 256 _ _ (λ a v. grows A b p bus post fresh (limit_at A.buses L a) b (omega arith))

-- an added pair raises the shortfall by one just where the new block holds both of its ends, and else leaves it
pub sharp_added : (A : Yard) (b p : ℕ) → b < A.buses → p < A.posts → A.paired b p ≡ false → (ℓ : ℕ → ℕ)
    → shortfall (add b p A) ℓ ≡ shortfall A ℓ + bit (block (add b p A) ℓ b && block (add b p A) ℓ (A.buses + p))
sharp_added = sharp

bit_one : (t : Bool) → bit t ≤ 1
bit_one t = grind arith

pub shortfall_added : ShortfallAdded 1
shortfall_added A L b p bus post fresh a =
    let ℓ : ℕ → ℕ = limit_at A.buses L a in
    let s = sharp_added A b p bus post fresh ℓ in
    let o = bit_one (block (add b p A) ℓ b && block (add b p A) ℓ (A.buses + p)) in
    (omega arith, omega arith)

pub ranks_added : RanksAdded (pos 1)
unfolding rank
ranks_added A L rising b p bus post fresh =
    let u = ups A L rising b p bus post fresh (top A L rising b p bus post fresh) refl in
    record {
      common = minus_one u.0;
      others = λ n w c. elim (u.1 n w c) [
        | inl same ↦ inl (ap minus_one same)
        | inr moved ↦ inr (ap minus_one moved.0, ap minus_one moved.1 ∙ sym (minus_one_more u.0))
      ];
      named = minus_one_le (rank_plus_one A L b) (rank_plus_one (add b p A) L b) (named_le A L rising b p bus post fresh);
    }

-- a pair that is dropped and added again
back : (e : Bool) (i j b p : ℕ) → (i ≡ b → j ≡ p → e ≡ true) → ((e && not (eqb i b && eqb j p)) || (eqb i b && eqb j p)) ≡ e
back e i j b p h = grind (arith, nat_tests)

add_drop : (A : Yard) (b p : ℕ) → A.paired b p ≡ true → add b p (drop b p A) ≡ A
add_drop A b p h i = record { buses = A.buses; posts = A.posts; paired = fun_ext (λ x. fun_ext (λ y. back (A.paired x y) x y b p (λ d e. ap₂ A.paired d e ∙ h))) i }

gone : (e : Bool) (b p : ℕ) → (e && not (eqb b b && eqb p p)) ≡ false
gone e b p = grind (arith, nat_tests)

pub ranks_dropped : RanksDropped (pos 1)
ranks_dropped A L rising b p bus post held =
    subst (λ C. Raised (pos 1) L b (drop b p A) C) (add_drop A b p held) (ranks_added (drop b p A) L rising b p bus post (gone (A.paired b p) b p))

-- a dropped pair lowers it by one just where the old block holds both of its ends
pub sharp_dropped : (A : Yard) (b p : ℕ) → b < A.buses → p < A.posts → A.paired b p ≡ true → (ℓ : ℕ → ℕ)
    → shortfall A ℓ ≡ shortfall (drop b p A) ℓ + bit (block A ℓ b && block A ℓ (A.buses + p))
sharp_dropped A b p bus post held ℓ =
    subst (λ C. shortfall C ℓ ≡ shortfall (drop b p A) ℓ + bit (block C ℓ b && block C ℓ (A.buses + p))) (add_drop A b p held)
    (sharp_added (drop b p A) b p bus post (gone (A.paired b p) b p) ℓ)

pub shortfall_dropped : ShortfallDropped 1
shortfall_dropped A L b p bus post held a =
    let ℓ : ℕ → ℕ = limit_at A.buses L a in
    let s = sharp_dropped A b p bus post held ℓ in
    let o = bit_one (block A ℓ b && block A ℓ (A.buses + p)) in
    (omega arith, omega arith)

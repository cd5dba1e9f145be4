-- `height k t`: one more than the highest number below k that passes the test t, 0 where none does.
use Rattle.std.proofs.Common.{◌≡◌, ℕ, zero, suc, ◌<◌, ◌≤◌, Bool, true, false, sym, ap, ◌∙◌, inl, inr, arith}
use Rattle.std.proofs.lemmas.Bool.{cases_Bool, cases_eq, cases_lt, true≢false}
use Rattle.blocks.specs.Ranks.{height}

top_yes : (k : ℕ) (t : ℕ → Bool) → t k ≡ true → height (suc k) t ≡ suc k
unfolding height
top_yes k t e = rw (e, height)

top_no : (k : ℕ) (t : ℕ → Bool) → t k ≡ false → height (suc k) t ≡ height k t
unfolding height
top_no k t e = rw (e, height)

pub height_top : (k : ℕ) (t : ℕ → Bool) → height k t ≤ k
unfolding height
height_top zero t = omega arith
height_top (suc k) t = elim (cases_Bool (t k)) [ inl e ↦ omega (arith, top_yes k t e) | inr e ↦ omega (arith, top_no k t e, height_top k t) ]

-- above it no number passes
pub height_above : (k : ℕ) (t : ℕ → Bool) (a : ℕ) → a < k → height k t ≤ a → t a ≡ false
unfolding height
height_above zero t a w h = absurd (omega arith)
height_above (suc k) t a w h = elim (cases_Bool (t k)) [
  | inl e ↦ absurd (omega (arith, top_yes k t e))
  | inr e ↦ elim (cases_eq a k) [
    | inl x ↦ ap t x ∙ e
    | inr x ↦ height_above k t a (omega arith) (omega (arith, top_no k t e))
  ]
]

-- the one below it passes
pub height_passes : (k : ℕ) (t : ℕ → Bool) (a : ℕ) → height k t ≡ suc a → t a ≡ true
unfolding height
height_passes zero t a h = absurd (omega arith)
height_passes (suc k) t a h = elim (cases_Bool (t k)) [
  | inl e ↦ let x : a ≡ k = omega (arith, top_yes k t e) in ap t x ∙ e
  | inr e ↦ height_passes k t a (sym (top_no k t e) ∙ h)
]

-- so that it is determined
pub height_at_least : (k : ℕ) (t : ℕ → Bool) (a : ℕ) → a < k → t a ≡ true → a < height k t
height_at_least zero t a w e = absurd (omega arith)
height_at_least (suc k) t a w e = elim (cases_Bool (t k)) [
  | inl x ↦ omega (arith, top_yes k t x)
  | inr x ↦ elim (cases_eq a k) [
    | inl y ↦ absurd (true≢false (sym e ∙ ap t y ∙ x))
    | inr y ↦ omega (arith, top_no k t x, height_at_least k t a (omega arith) e)
  ]
]

pub height_at_most : (k : ℕ) (t : ℕ → Bool) (h : ℕ) → ((a : ℕ) → a < k → h ≤ a → t a ≡ false) → height k t ≤ h
unfolding height
height_at_most zero t h none_above = omega arith
height_at_most (suc k) t h none_above = elim (cases_Bool (t k)) [
  | inl e ↦ omega (arith, top_yes k t e, past e)
  | inr e ↦ omega (arith, top_no k t e, height_at_most k t h (λ a w v. none_above a (omega arith) v))
]
  where
    past : t k ≡ true → k < h
    past e = elim (cases_lt k h) [ inl v ↦ v | inr v ↦ absurd (true≢false (sym e ∙ none_above k (omega arith) v)) ]

pub height_le : (k : ℕ) (s t : ℕ → Bool) → ((a : ℕ) → a < k → s a ≡ true → t a ≡ true) → height k s ≤ height k t
height_le k s t le = height_at_most k s (height k t) (λ a w h. elim (cases_Bool (s a)) [
  | inl e ↦ absurd (true≢false (sym (le a w e) ∙ height_above k t a w h))
  | inr e ↦ e
])

pub height_same : (k : ℕ) (s t : ℕ → Bool) → ((a : ℕ) → a < k → s a ≡ t a) → height k s ≡ height k t
height_same k s t same = omega (arith, height_le k s t (λ a w e. sym (same a w) ∙ e), height_le k t s (λ a w e. same a w ∙ e))

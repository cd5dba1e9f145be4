-- Lemmas on a text with zeros behind.
use Rattle.std.proofs.Common.{◌≡◌, ℕ, ◌<◌, ◌≤◌, List, ◌++◌, length, get_or, take, replicate, sym, refl, ap, ◌∙◌, inl, inr, arith}
use Rattle.std.proofs.lemmas.List.{get_or-replicate, length-replicate, get_or_append_left, get_or-append_right, get_or_past, get_or-take, take_at, take_all, length-take-le}
use Rattle.std.proofs.lemmas.Bool.{cases_lt, cases_order}
use Rattle.console.specs.Inputs.{Shown}
use Rattle.console.specs.Texts.{Zeroless}

zeros : (n k : ℕ) → get_or {A = ℕ} (replicate n 0) k 0 ≡ 0
zeros n k = elim (cases_lt k n) [
  | inl w ↦ get_or-replicate n k 0 0 w
  | inr w ↦ get_or_past (replicate n 0) k 0 (omega (arith, length-replicate {A = ℕ} n 0))
]

-- a text without a zero ends at the first zero
first_zero : (field : List ℕ) (n : ℕ) → ((k : ℕ) → k < n → get_or field k 0 ≡ 0 → ⊥) → get_or field n 0 ≡ 0
    → (text : List ℕ) (z : ℕ) → Zeroless text → field ≡ text ++ replicate z 0 → take n field ≡ text
first_zero field n before here text z clear e = elim (cases_order (length text) n) [
  | inl same ↦ ap (take n) e ∙ take_at text (replicate z 0) n same
  | inr (inl less) ↦
      absurd (before (length text) less (ap (λ t. get_or t (length text) 0) e ∙ get_or-append_right text (replicate z 0) (length text) (length text) 0 refl (omega arith) ∙ zeros z _))
  | inr (inr more) ↦ absurd (clear n more (sym (get_or_append_left text (replicate z 0) 0 n more) ∙ ap (λ t. get_or t n 0) (sym e) ∙ here))
]

pub shown_front : (field : List ℕ) (n : ℕ) → n ≤ length field → ((k : ℕ) → k < n → get_or field k 0 ≡ 0 → ⊥) → get_or field n 0 ≡ 0 → Shown field (take n field)
shown_front field n w before here =
    let long : length (take n field) ≡ n = length-take-le n field w in
    record {
      front = ap (λ t. take t field) (sym long);
      zeroless = λ k l e. let below : k < n = omega arith in before k below (sym (get_or-take n field k 0 below) ∙ e);
      stops = λ _. ap (λ t. get_or field t 0) long ∙ here;
      whole = first_zero field n before here;
    }

pub shown_whole : (field : List ℕ) → Zeroless field → Shown field field
shown_whole field before =
    let all : take (length field) field ≡ field = take_all (length field) field (omega arith) in
    record {
      front = sym all;
      zeroless = before;
      stops = λ l. absurd (omega arith);
      whole = λ text z clear e. sym all ∙ first_zero field (length field) before (get_or_past field (length field) 0 (omega arith)) text z clear e;
    }

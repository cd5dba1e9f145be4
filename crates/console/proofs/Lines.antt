-- Lemmas on the lines of an input.
use Rattle.std.proofs.Common.{◌≡◌, ◌≢◌, ℕ, ◌+◌, ◌-◌, ◌<◌, ◌≤◌, min, List, length, get_or, take, drop, inl, inr, sym, ap, ◌∙◌, arith}
use Rattle.std.proofs.lemmas.List.{get_or-drop, get_or-take, length-drop, length-take-le, take-take}
use Rattle.console.specs.Inputs.{Line}

-- rest is what the input has from a place up to its end or to the limit
module _ (input rest : List ℕ) (from end : ℕ) (limit : end ≡ min (length input) 65536) (forward : from ≤ end) (is : rest ≡ take (end - from) (drop from input)) where
  rest_length : length rest ≡ end - from
  rest_length = ap length is ∙ length-take-le (end - from) (drop from input) (omega (arith, length-drop from input))

  rest_at : (k : ℕ) → from ≤ k → k < end → get_or rest (k - from) 0 ≡ get_or input k 0
  rest_at k low high =
      let back : from + (k - from) ≡ k = omega arith in
      ap (λ t. get_or t (k - from) 0) is ∙ get_or-take (end - from) (drop from input) (k - from) 0 (omega arith) ∙ get_or-drop from input (k - from) 0 ∙ ap (λ t. get_or input t 0) back

  -- a byte 10 ends the line
  pub line_to : (len : ℕ) → len < length rest → get_or rest len 0 ≡ 10 → ((k : ℕ) → k < len → get_or rest k 0 ≢ 10)
      → Line input from (from + length (take len rest)) × (take len rest ≡ take (length (take len rest)) (drop from input))
  line_to len w at before =
      let long : length (take len rest) ≡ len = length-take-le len rest (omega arith) in
      let same : from + len - from ≡ len = omega arith in
      let line : Line input from (from + len) = record {
        begins = omega (arith, rest_length);
        forward = omega arith;
        plain = λ k low high b. before (k - from) (omega arith) (rest_at k low (omega (arith, rest_length)) ∙ b);
        ended = inl (omega (arith, rest_length), omega (arith, rest_length), sym (rest_at (from + len) (omega arith) (omega (arith, rest_length))) ∙ ap (λ t. get_or rest t 0) same ∙ at);
      } in
      rw long (line, ap (take len) is ∙ take-take len (end - from) (drop from input) (omega (arith, rest_length)))

  module _ (none : (k : ℕ) → k < length rest → get_or rest k 0 ≢ 10) where
    -- the input's end ends the line
    pub line_to_end : from < end → end < 65536 → Line input from (from + length rest) × (rest ≡ take (length rest) (drop from input))
    line_to_end some short = (
      record {
        begins = omega arith;
        forward = omega arith;
        plain = λ k low high b. none (k - from) (omega arith) (rest_at k low (omega (arith, rest_length)) ∙ b);
        ended = inr (omega (arith, rest_length), omega arith);
      },
      is ∙ ap (λ t. take t (drop from input)) (sym rest_length),
    )

    -- nothing is left, or the limit cuts what is left
    pub no_line : (from < end → 65536 ≤ end) → (to : ℕ) → Line input from to → ⊥
    no_line cut to l = elim l.ended [
      | inl e ↦ none (to - from) (omega (arith, rest_length, l.forward)) (rest_at to l.forward (omega arith) ∙ e.2)
      | inr e ↦ omega (arith, l.begins, cut (omega (arith, l.begins)))
    ]

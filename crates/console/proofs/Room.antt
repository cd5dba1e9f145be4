-- Lemmas on numbers in a text, and on the room that they take.
use Rattle.std.proofs.Common.{◌≡◌, ℕ, ◌+◌, ◌*◌, ◌^◌, ◌<◌, ◌≤◌, List, [], ◌∷◌, ◌++◌, length, get_or, take, drop, codes, decimal, sym, refl, ap, ◌∙◌, inl, inr, append_assoc, Err, arith}
use Rattle.std.proofs.lemmas.Fmt.{decimal_digit, length-decimal-le, decimal_nonempty, first_decimal, digits_decimal, digits_value-decimal}
use Rattle.std.proofs.lemmas.List.{take-append-drop, length-append, append-nil, take_more}
use Rattle.std.proofs.lemmas.Bool.{cases_lt}
use Rattle.console.specs.Faults.{line_number, layer, held}
use Rattle.console.specs.Texts.{spaced, DecimalsStand}
use Rattle.console.specs.Words.{printed}
use Rattle.console.specs.declared.faults.LineFault.{LineFault}
use Rattle.console.proofs.Numerals.{own}

spaced_append : (ms ns : List ℕ) → spaced (ms ++ ns) ≡ spaced ms ++ spaced ns
spaced_append [] ns = refl
spaced_append (m ∷ ms) ns = ap (λ t. 32 ∷ decimal m ++ t) (spaced_append ms ns) ∙ sym (append_assoc (32 ∷ decimal m) (spaced ms) (spaced ns))

length_spaced : (n : ℕ) (ns : List ℕ) → length (spaced (n ∷ ns)) ≡ 1 + length (decimal n) + length (spaced ns)
length_spaced n ns = omega (arith, length-append (32 ∷ decimal n) (spaced ns))

-- one number more
pub spaced_more : (ns : List ℕ) (i : ℕ) → i < length ns → spaced (take (i + 1) ns) ≡ spaced (take i ns) ++ 32 ∷ decimal (get_or ns i 0)
spaced_more ns i w = ap spaced (take_more ns i 0 w) ∙ spaced_append (take i ns) (get_or ns i 0 ∷ []) ∙ ap (λ t. spaced (take i ns) ++ t) (append-nil (32 ∷ decimal (get_or ns i 0)))

-- the numbers so far, and the next, are no longer than all of them
pub spaced_room : (ns : List ℕ) (i : ℕ) → i < length ns → length (spaced (take i ns)) + 1 + length (decimal (get_or ns i 0)) ≤ length (spaced ns)
spaced_room ns i w =
    let all = ap (λ t. length (spaced t)) (take-append-drop (i + 1) ns) in
    omega (
      arith,
      ap length (spaced_append (take (i + 1) ns) (drop (i + 1) ns)),
      length-append (spaced (take (i + 1) ns)) (spaced (drop (i + 1) ns)),
      ap length (spaced_more ns i w),
      length-append (spaced (take i ns)) (32 ∷ decimal (get_or ns i 0)),
    )

-- how much room numbers take
pub one_room : (k n : ℕ) → 0 < k → n < 10 ^ k → n < 2 ^ 64 → length (spaced (n ∷ [])) ≤ k + 1
one_room k n some below fits = omega (arith, length_spaced n [], length-decimal-le k n some below fits)

pub two_room : (k m n : ℕ) → 0 < k → m < 10 ^ k → n < 10 ^ k → m < 2 ^ 64 → n < 2 ^ 64 → length (spaced (m ∷ n ∷ [])) ≤ 2 * k + 2
two_room k m n some p q f g = omega (arith, length_spaced m (n ∷ []), length-decimal-le k m some p f, one_room k n some q g)

pub refused_room : (f : LineFault) → length (layer f) ≤ 5 → line_number f ≤ 34 → length (spaced (held f)) ≤ 21 → length (printed (Err f)) ≤ 32
refused_room f word small more =
    omega (
      arith,
      length-append (codes "no " ++ layer f) (spaced (line_number f ∷ held f)),
      length-append (codes "no ") (layer f),
      length_spaced (line_number f) (held f),
      length-decimal-le 2 (line_number f) (omega arith) (omega arith) (omega arith),
    )

-- what `decimal` writes, in the grammar's terms
pub decimals_stand_lem : DecimalsStand
decimals_stand_lem n fits = record {
  some = decimal_nonempty n fits;
  digits = digits_decimal own n fits;
  value = digits_value-decimal own n fits;
  leading = λ e. elim (cases_lt 0 n) [
    | inl w ↦ absurd (omega (arith, first_decimal n w fits))
    | inr w ↦ ap length (decimal_digit n (omega arith))
  ];
}

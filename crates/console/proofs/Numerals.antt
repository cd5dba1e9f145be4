-- Lemmas on numbers and fields.
use Rattle.std.proofs.Common.{◌≡◌, ℕ, ◌+◌, ◌-◌, ◌*◌, ◌^◌, ◌<◌, ◌≤◌, List, [], ◌∷◌, Option, Some, None, length, get_or, take, sym, refl, ap, ◌∙◌, subst, inl, inr, lit<, arith, rules}
use Rattle.std.specs.Int.{IsInRange}
use Rattle.std.specs.Option.{ok_or, SomeIff}
use Rattle.std.specs.Result.{MatchResult}
use Rattle.std.specs.Str.Parse.{AllDigits, digits_value}
use Rattle.std.proofs.lemmas.Int.Digits.{digits_more, digits_value_more}
use Rattle.std.proofs.lemmas.Str.{digit_value_digit}
use Rattle.std.proofs.lemmas.Str.Parse.{IsNumeralModel, numerals_by_weight, tells_by_index, tells_digits, digits_value-take-le}
use Rattle.std.proofs.Math.Nat.{pow-le-pow_right, mul-le-mul_right}
use Rattle.std.proofs.lemmas.Bool.{cases_lt}
use Rattle.std.proofs.lemmas.List.{take_all}
use Rattle.console.specs.Grammar.{weighed, DigitsOnly, Number, Fields}
use Rattle.console.specs.Parts.{Refuses}
use Rattle.console.specs.declared.faults.LineFault.TheVariants.{Fields as wrong_fields}

-- the grammar's digits and their value are those of the library
pub own : IsNumeralModel DigitsOnly weighed
own = numerals_by_weight DigitsOnly tells_by_index weighed (search rules)

-- bytes that are no number are refused where one is wanted
pub not_one : (bytes : List ℕ) → ((n : ℕ) → Number bytes n → ⊥) → Refuses bytes 1 wrong_fields
not_one bytes wrong = record { fault = refl; wrong = at }
  where
    at : (ns : List ℕ) → length ns ≡ 1 → Fields bytes ns → ⊥
    at [] e f = f
    at (n ∷ []) e f = wrong n f
    at (n ∷ m ∷ ns) e f = omega arith

-- a number that a `u16` holds has few digits
pub is_number : (ds : List ℕ) (n : ℕ) → DigitsOnly ds → weighed ds ≡ n → n ≤ 65535 → 0 < length ds → (get_or ds 0 0 ≡ 48 → length ds ≡ 1) → Number ds n
is_number [] n digits value fits some leading = absurd (omega arith)
is_number (c ∷ cs) n digits value fits some leading = elim (cases_lt (length cs) 5) [
  | inl few ↦ record { some = some; few = omega arith; digits = digits; leading = leading; value = value; fits = fits }
  | inr many ↦
      let large : 10 ^ 5 ≤ 10 ^ length cs = pow-le-pow_right (lit< tt) many in
      let one : 1 ≤ c - 48 = grind (arith, (digits 0 some).0, leading) in
      absurd (omega (arith, large, mul-le-mul_right (10 ^ length cs) one))
]

-- a number, or the refusal of what is none
pub read_number : (ds : List ℕ) (r : Option ℕ) → SomeIff r (DigitsOnly ds × (weighed ds ≤ 65535)) (weighed ds) → 0 < length ds → (get_or ds 0 0 ≡ 48 → length ds ≡ 1)
    → MatchResult (ok_or r wrong_fields) (λ n. Number ds n) (λ e. Refuses ds 1 e)
read_number ds (Some n) h some leading = is_number ds n h.0.0 (sym h.1) (omega (arith, h.0.1, h.1)) some leading
read_number ds None h some leading = not_one ds (λ n w. h (w.digits, omega (arith, w.value, w.fits)))

-- one digit more
pub value_next : (ds : List ℕ) (i v : ℕ) → i < length ds → AllDigits 10 (take i ds) → v ≡ digits_value 10 (take i ds) → IsInRange 48 57 (get_or ds i 0)
    → AllDigits 10 (take (i + 1) ds) × (10 * v + (get_or ds i 0 - 48) ≡ digits_value 10 (take (i + 1) ds))
value_next ds i v w digits e d = (
  digits_more 10 ds i w digits (tells_digits.more (get_or ds i 0) [] d tt).0,
  omega (arith, digits_value_more 10 ds i w, digit_value_digit (get_or ds i 0) d),
)

-- the digits so far and one more are worth no more than all
pub weighed_more : (ds : List ℕ) (i v : ℕ) → i < length ds → AllDigits 10 (take i ds) → v ≡ digits_value 10 (take i ds) → IsInRange 48 57 (get_or ds i 0)
    → DigitsOnly ds → 10 * v + (get_or ds i 0 - 48) ≤ weighed ds
weighed_more ds i v w digits e d all = omega (arith, (value_next ds i v w digits e d).1, digits_value-take-le 10 ds (i + 1) (omega arith), own.same ds (own.to ds all))

-- all of them
pub all_weighed : (ds : List ℕ) (i v : ℕ) → length ds ≤ i → AllDigits 10 (take i ds) → v ≡ digits_value 10 (take i ds) → DigitsOnly ds × (v ≡ weighed ds)
all_weighed ds i v w digits e =
    let whole : take i ds ≡ ds = take_all i ds w in
    let d : AllDigits 10 ds = subst (λ t. AllDigits 10 t) whole digits in
    (own.from ds d, e ∙ ap (digits_value 10) whole ∙ sym (own.same ds d))

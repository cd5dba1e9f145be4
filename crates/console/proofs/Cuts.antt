-- Lemmas on fields cut at their spaces.
use Rattle.std.proofs.Common.{◌≡◌, ◌≢◌, ℕ, zero, suc, ◌+◌, ◌<◌, false, eqb, Option, Some, None, List, [], ◌∷◌, ◌++◌, ◌⊎◌, length, get_or, take, drop, set, sym, refl, ap, ◌∙◌, subst, inl, inr, eqb-true, ne_eqb, arith}
use Rattle.std.specs.Borrow.{Bor}
use Rattle.std.specs.List.{slice_split, position_or_len, before_first, after_first, All}
use Rattle.std.proofs.lemmas.Bool.{cases_lt}
use Rattle.std.proofs.lemmas.List.{get_or_default, length-drop, drop_more, take_more, take_more_set}
use Rattle.std.proofs.lemmas.List.Splits.{slice_split_none, slice_split_at, slice_split_first, length-slice_split}
use Rattle.std.proofs.lemmas.List.Sums.{split_at_first, passes_at_first, fails_before_first}
use Rattle.console.specs.Grammar.{DigitsOnly, Number, Fields}
use Rattle.console.specs.Parts.{Spaceless, Cut, Refuses}
use Rattle.console.specs.declared.faults.LineFault.{LineFault}
use Rattle.console.specs.declared.faults.LineFault.TheVariants.{Fields as wrong_fields}

-- what stands before, between and behind the spaces
abbrev pub parts : List ℕ → List (List ℕ)
parts bytes = slice_split (λ b. eqb b 32) bytes

-- the same of what is left to read
abbrev pub left : Option (Bor (List ℕ)) → List (List ℕ)
left None = []
left (Some bytes) = parts bytes.now

-- the parts are these numbers
abbrev pub Numbers : List (List ℕ) → List ℕ → Type 0
Numbers [] [] = Unit {0}
Numbers [] (n ∷ ns) = ⊥
Numbers (p ∷ ps) [] = ⊥
Numbers (p ∷ ps) (n ∷ ns) = Number p n × Numbers ps ns

pub some_part : (bytes : List ℕ) → 0 < length (parts bytes)
some_part bytes = omega (arith, length-slice_split (λ b. eqb b 32) bytes)

no_space : (bytes : List ℕ) → Spaceless bytes → All (λ b. eqb b 32 ≡ false) bytes
no_space bytes s k d l = ne_eqb _ 32 (λ e. s k l (get_or_default bytes k 0 d l ∙ e))

one_part : (bytes : List ℕ) → Spaceless bytes → parts bytes ≡ bytes ∷ []
one_part bytes s = slice_split_none (λ b. eqb b 32) bytes (no_space bytes s)

more_parts : (bytes first rest : List ℕ) → Spaceless first → bytes ≡ first ++ 32 ∷ rest → parts bytes ≡ first ∷ parts rest
more_parts bytes first rest s e = ap parts e ∙ slice_split_at (λ b. eqb b 32) first 32 rest (no_space first s) refl

cut_parts : (bytes first : List ℕ) (rest : Option (Bor (List ℕ))) → Cut bytes first rest → parts bytes ≡ first ∷ left rest
cut_parts bytes first None c = ap parts c.1 ∙ one_part first c.0
cut_parts bytes first (Some rest) c = more_parts bytes first rest.now c.0 c.1

-- the next part, where something is left
pub next_part : (ps : List (List ℕ)) (rest behind : Option (Bor (List ℕ))) (bytes : Bor (List ℕ)) (first : List ℕ) → ps ≡ left rest → rest ≡ Some bytes → Cut bytes.now first behind → ps ≡ first ∷ left behind
next_part ps rest behind bytes first is some cut = is ∙ ap left some ∙ cut_parts bytes.now first behind cut

-- digits are no spaces
digits_spaceless : (ds : List ℕ) → DigitsOnly ds → Spaceless ds
digits_spaceless ds d i w e = omega (arith, (d i w).0)

pub numbers_from_fields : (bytes ns : List ℕ) → Fields bytes ns → Numbers (parts bytes) ns
numbers_from_fields bytes [] f = absurd f
numbers_from_fields bytes (n ∷ []) f = rw (one_part bytes (digits_spaceless bytes f.digits)) (f, tt)
numbers_from_fields bytes (n ∷ m ∷ ns) f =
    rw (more_parts bytes f.0 f.1 (digits_spaceless f.0 f.3.digits) f.2) (f.3, numbers_from_fields f.1 (m ∷ ns) f.4)

module _ (bytes : List ℕ) where
  -- either bytes are one part, or they are cut at the first space
  cut_cases : (parts bytes ≡ bytes ∷ []) ⊎ ((first : List ℕ) × (rest : List ℕ) × (parts bytes ≡ first ∷ parts rest) × (bytes ≡ first ++ 32 ∷ rest))
  cut_cases = elim (cases_lt (position_or_len (λ b. eqb b 32) bytes) (length bytes)) [
    | inl w ↦ inr (
      before_first (λ b. eqb b 32) bytes,
      after_first (λ b. eqb b 32) bytes,
      slice_split_first (λ b. eqb b 32) bytes 0 w,
      split_at_first (λ b. eqb b 32) bytes 0 w ∙ ap (λ t. before_first (λ b. eqb b 32) bytes ++ t ∷ after_first (λ b. eqb b 32) bytes) (eqb-true _ 32 (passes_at_first (λ b. eqb b 32) bytes 0 w)),
    )
    | inr w ↦ inl (slice_split_none (λ b. eqb b 32) bytes (λ k d l. fails_before_first (λ b. eqb b 32) bytes k d (omega arith)))
  ]

-- as many parts as numbers
numbers_length : (ps : List (List ℕ)) (ns : List ℕ) → Numbers ps ns → length ps ≡ length ns
numbers_length [] [] h = refl
numbers_length [] (n ∷ ns) h = absurd h
numbers_length (p ∷ ps) [] h = absurd h
numbers_length (p ∷ ps) (n ∷ ns) h = ap suc (numbers_length ps ns h.1)

pub fields_from_numbers : (bytes ns : List ℕ) → Numbers (parts bytes) ns → Fields bytes ns
fields_from_numbers bytes [] h = elim (cut_cases bytes) [
  | inl e ↦ subst (λ t. Numbers t []) e h
  | inr c ↦ subst (λ t. Numbers t []) c.2 h
]
fields_from_numbers bytes (n ∷ []) h = elim (cut_cases bytes) [
  | inl e ↦ (subst (λ t. Numbers t (n ∷ [])) e h).0
  | inr c ↦ absurd (omega (arith, some_part c.1, numbers_length (parts c.1) [] (subst (λ t. Numbers t (n ∷ [])) c.2 h).1))
]
fields_from_numbers bytes (n ∷ m ∷ ns) h = elim (cut_cases bytes) [
  | inl e ↦ absurd (subst (λ t. Numbers t (n ∷ m ∷ ns)) e h).1
  | inr c ↦ let k = subst (λ t. Numbers t (n ∷ m ∷ ns)) c.2 h in (c.0, c.1, c.3, k.0, fields_from_numbers c.1 (m ∷ ns) k.1)
]

number_at : (ps : List (List ℕ)) (ns : List ℕ) (i : ℕ) → Numbers ps ns → i < length ps → Number (get_or ps i []) (get_or ns i 0)
number_at [] [] i h w = absurd (omega arith)
number_at [] (n ∷ ns) i h w = absurd h
number_at (p ∷ ps) [] i h w = absurd h
number_at (p ∷ ps) (n ∷ ns) zero h w = h.0
number_at (p ∷ ps) (n ∷ ns) (suc i) h w = number_at ps ns i h.1 (omega arith)

numbers_push : (ps : List (List ℕ)) (ns : List ℕ) (p : List ℕ) (n : ℕ) → Numbers ps ns → Number p n → Numbers (ps ++ p ∷ []) (ns ++ n ∷ [])
numbers_push [] [] p n h k = (k, tt)
numbers_push [] (m ∷ ns) p n h k = absurd h
numbers_push (q ∷ ps) [] p n h k = absurd h
numbers_push (q ∷ ps) (m ∷ ns) p n h k = (h.0, numbers_push ps ns p n h.1 k)

same_numbers : (ps : List (List ℕ)) (ns ms : List ℕ) → Numbers ps ns → Numbers ps ms → ns ≡ ms
same_numbers [] [] [] h k = refl
same_numbers [] [] (m ∷ ms) h k = absurd k
same_numbers [] (n ∷ ns) ms h k = absurd h
same_numbers (p ∷ ps) [] ms h k = absurd h
same_numbers (p ∷ ps) (n ∷ ns) [] h k = absurd k
same_numbers (p ∷ ps) (n ∷ ns) (m ∷ ms) h k =
    let first : n ≡ m = sym h.0.value ∙ k.0.value in
    let more : ns ≡ ms = same_numbers ps ns ms h.1 k.1 in
    cc

-- bytes are one list of numbers at most
pub same_fields : (bytes ns ms : List ℕ) → Fields bytes ns → Fields bytes ms → ns ≡ ms
same_fields bytes ns ms f g = same_numbers (parts bytes) ns ms (numbers_from_fields bytes ns f) (numbers_from_fields bytes ms g)

-- too few parts, or too many
pub miscounted : (bytes : List ℕ) (count : ℕ) → length (parts bytes) ≢ count → Refuses bytes count wrong_fields
miscounted bytes count other = record { fault = refl; wrong = λ ns l f. other (numbers_length (parts bytes) ns (numbers_from_fields bytes ns f) ∙ l) }

module _ (ps : List (List ℕ)) (i : ℕ) (p : List ℕ) (rest : List (List ℕ)) (next : drop i ps ≡ p ∷ rest) where
  -- a part is left
  pub within : i < length ps
  within = omega (arith, length-drop i ps, ap length next)

  this_part : (get_or ps i [] ≡ p) × (drop (i + 1) ps ≡ rest)
  this_part = let e = drop_more ps i [] within in (cc, cc)

  -- the next part is the next number
  pub numbers_more : (ns : List ℕ) (n : ℕ) → i < length ns → Numbers (take i ps) (take i ns) → Number p n → (drop (i + 1) ps ≡ rest) × Numbers (take (i + 1) ps) (take (i + 1) (set ns i n))
  numbers_more ns n w h k =
      (this_part.1, rw (take_more ps i [] within, take_more_set ns i n w, this_part.0) (numbers_push (take i ps) (take i ns) p n h k))

-- a part that is no number
pub no_number : (bytes : List ℕ) (count i : ℕ) (p : List ℕ) (rest : List (List ℕ)) (e : LineFault) → drop i (parts bytes) ≡ p ∷ rest → Refuses p 1 e → Refuses bytes count e
no_number bytes count i p rest e next r = record {
  fault = r.fault;
  wrong = λ ns l f.
      r.wrong (get_or ns i 0 ∷ []) refl
      (subst (λ t. Number t (get_or ns i 0)) (this_part (parts bytes) i p rest next).0 (number_at (parts bytes) ns i (numbers_from_fields bytes ns f) (within (parts bytes) i p rest next)));
}

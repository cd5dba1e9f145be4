-- No answer has a zero byte.
use Rattle.std.proofs.Common.{◌≡◌, ℕ, zero, suc, ◌+◌, ◌/◌, ◌%◌, ◌<◌, Bool, true, false, ◌&&◌, eqb, ltb, List, [], ◌∷◌, ◌++◌, ℤ, pos, negsuc, codes, decimal, Result, Ok, Err, refl, arith}
use Rattle.std.specs.Fmt.{digits, signed_decimal, digits_onto, digit_glyph}
use Rattle.std.proofs.lemmas.Bool.{ltb-true, and_parts, and_from, cond_both, lt-ltb}
use Rattle.table.specs.declared.faults.TableFault.{TableFault}
use Rattle.table.specs.declared.faults.TableFault.TheVariants.{Level, Bytes, Node, Output, Store}
use Rattle.console.specs.Faults.{line_number, layer, table_fault_layer, held}
use Rattle.console.specs.Texts.{spaced, Zeroless}
use Rattle.console.specs.Words.{words, printed, text}
use Rattle.console.specs.declared.answers.Answer.{Answer}
use Rattle.console.specs.declared.answers.Answer.TheVariants.{Done, Rank, Block, Shortfall}
use Rattle.console.specs.declared.faults.LineFault.{LineFault}
use Rattle.console.specs.declared.faults.LineFault.TheVariants.{Unreadable, Fields, OutOfOrder, OutOfRange, Table}

abbrev nonzero : List ℕ → Bool
nonzero [] = true
nonzero (x ∷ xs) = ltb 0 x && nonzero xs

nonzero_append : (xs ys : List ℕ) → nonzero xs ≡ true → nonzero ys ≡ true → nonzero (xs ++ ys) ≡ true
nonzero_append [] ys p q = q
nonzero_append (x ∷ xs) ys p q =
    let parts = and_parts (ltb 0 x) (nonzero xs) p in
    and_from (ltb 0 x) (nonzero (xs ++ ys)) parts.0 (nonzero_append xs ys parts.1 q)

nonzero_glyph : (d : ℕ) → ltb 0 (digit_glyph false d) ≡ true
nonzero_glyph d = lt-ltb 0 (digit_glyph false d) (cond_both (ltb d 10) (48 + d) (87 + d) (λ t. 0 < t) (λ _. omega arith) (λ _. omega arith))

nonzero_spelled : (k n : ℕ) (acc : List ℕ) → nonzero acc ≡ true → nonzero (digits_onto k 10 false n acc) ≡ true
nonzero_spelled zero n acc p = p
nonzero_spelled (suc k) n acc p =
    let more : nonzero (digit_glyph false (n % 10) ∷ acc) ≡ true = and_from (ltb 0 (digit_glyph false (n % 10))) (nonzero acc) (nonzero_glyph (n % 10)) p in
    cond_both (eqb (n / 10) 0) (digit_glyph false (n % 10) ∷ acc) (digits_onto k 10 false (n / 10) (digit_glyph false (n % 10) ∷ acc)) (λ t. nonzero t ≡ true)
    (λ _. more) (λ _. nonzero_spelled k (n / 10) (digit_glyph false (n % 10) ∷ acc) more)

nonzero_decimal : (n : ℕ) → nonzero (decimal n) ≡ true
unfolding digits
nonzero_decimal n = nonzero_spelled 64 n [] refl

nonzero_signed : (z : ℤ) → nonzero (signed_decimal z) ≡ true
nonzero_signed (pos n) = nonzero_decimal n
nonzero_signed (negsuc n) = nonzero_decimal (suc n)

nonzero_spaced : (ns : List ℕ) → nonzero (spaced ns) ≡ true
nonzero_spaced [] = refl
nonzero_spaced (n ∷ ns) = nonzero_append (decimal n) (spaced ns) (nonzero_decimal n) (nonzero_spaced ns)

nonzero_table_layer : (f : TableFault) → nonzero (table_fault_layer f) ≡ true
nonzero_table_layer (Level l) = refl
nonzero_table_layer (Bytes n) = refl
nonzero_table_layer (Node n) = refl
nonzero_table_layer (Output n) = refl
nonzero_table_layer (Store f) = refl

nonzero_layer : (f : LineFault) → nonzero (layer f) ≡ true
nonzero_layer Unreadable = refl
nonzero_layer Fields = refl
nonzero_layer OutOfOrder = refl
nonzero_layer OutOfRange = refl
nonzero_layer (Table f) = nonzero_table_layer f

nonzero_words : (a : Answer) → nonzero (words a) ≡ true
nonzero_words Done = refl
nonzero_words (Rank n) = nonzero_append (codes "rank ") (signed_decimal n) refl (nonzero_signed n)
nonzero_words (Block b p) = nonzero_append (codes "block") (spaced (b ∷ p ∷ [])) refl (nonzero_spaced (b ∷ p ∷ []))
nonzero_words (Shortfall n) = nonzero_append (codes "short") (spaced (n ∷ [])) refl (nonzero_spaced (n ∷ []))

nonzero_printed : (r : Result Answer LineFault) → nonzero (printed r) ≡ true
nonzero_printed (Ok a) = nonzero_words a
nonzero_printed (Err f) =
    nonzero_append (codes "no " ++ layer f) (spaced (line_number f ∷ held f)) (nonzero_append (codes "no ") (layer f) refl (nonzero_layer f)) (nonzero_spaced (line_number f ∷ held f))

zeroless_from : (xs : List ℕ) → nonzero xs ≡ true → Zeroless xs
zeroless_from [] p k w e = omega arith
zeroless_from (x ∷ xs) p zero w e = omega (arith, ltb-true 0 x (and_parts (ltb 0 x) (nonzero xs) p).0)
zeroless_from (x ∷ xs) p (suc k) w e = zeroless_from xs (and_parts (ltb 0 x) (nonzero xs) p).1 k (omega arith) e

pub zeroless_text : (line : ℕ) (r : Result Answer LineFault) → Zeroless (text line r)
zeroless_text line r =
    zeroless_from (text line r)
    (nonzero_append (decimal line ++ 32 ∷ printed r) (10 ∷ []) (nonzero_append (decimal line) (32 ∷ printed r) (nonzero_decimal line) (nonzero_printed r)) refl)

-- Lemmas on what a line means.
use Rattle.std.proofs.Common.{◌≡◌, ℕ, cond, eqb, List, [], ◌∷◌, length, get_or, Ok, Err, Result, sym, refl, ap, ◌∙◌, subst, arith}
use Rattle.std.specs.Result.{IsErrAnd}
use Rattle.std.proofs.lemmas.Result.{err_from_is_err_and}
use Rattle.console.specs.Grammar.{Fields, letter, numbers, Readable, Spells, Reads, OneMeaning}
use Rattle.console.specs.Parts.{Refuses, Chosen}
use Rattle.console.specs.declared.commands.Command.{Command}
use Rattle.stores.specs.Meaning.{pair}
use Rattle.console.specs.declared.commands.Command.TheVariants.{Open, Add, Drop, BusRank, PostRank, Block, Shortfall}
use Rattle.console.specs.declared.faults.LineFault.{LineFault}
use Rattle.console.specs.declared.faults.LineFault.TheVariants.{Unreadable, Fields as wrong_fields, OutOfOrder, OutOfRange, Table}
use Rattle.console.proofs.Cuts.{same_fields}

-- how many numbers a letter wants
arity : ℕ → ℕ
arity l = cond (eqb l 116) 3 (cond (eqb l 97) 2 (cond (eqb l 100) 2 1))

arity_is : (c : Command) → length (numbers c) ≡ arity (letter c)
unfolding arity
arity_is (Open b p l) = refl
arity_is (Add q) = refl
arity_is (Drop q) = refl
arity_is (BusRank b) = refl
arity_is (PostRank p) = refl
arity_is (Block l) = refl
arity_is (Shortfall l) = refl

-- the command of a letter and its numbers
decode : ℕ → List ℕ → Command
decode l ns =
    cond (eqb l 116) (Open (get_or ns 0 0) (get_or ns 1 0) (get_or ns 2 0)) (cond (eqb l 97) (Add (pair (get_or ns 0 0) (get_or ns 1 0)))
    (cond (eqb l 100) (Drop (pair (get_or ns 0 0) (get_or ns 1 0))) (cond (eqb l 98) (BusRank (get_or ns 0 0))
    (cond (eqb l 112) (PostRank (get_or ns 0 0)) (cond (eqb l 107) (Block (get_or ns 0 0)) (Shortfall (get_or ns 0 0)))))))

decode_is : (c : Command) → decode (letter c) (numbers c) ≡ c
unfolding decode
decode_is (Open b p l) = refl
decode_is (Add q) = refl
decode_is (Drop q) = refl
decode_is (BusRank b) = refl
decode_is (PostRank p) = refl
decode_is (Block l) = refl
decode_is (Shortfall l) = refl

same_command : (c d : Command) → letter c ≡ letter d → numbers c ≡ numbers d → c ≡ d
same_command c d e f = sym (decode_is c) ∙ ap (λ l. decode l (numbers c)) e ∙ ap (decode (letter d)) f ∙ decode_is d

-- an array by its elements
pub two : (ns : List ℕ) → length ns ≡ 2 → ns ≡ get_or ns 0 0 ∷ get_or ns 1 0 ∷ []
two [] long = absurd (omega arith)
two (n ∷ []) long = absurd (omega arith)
two (n ∷ m ∷ []) long = refl
two (n ∷ m ∷ k ∷ ns) long = absurd (omega arith)

pub three : (ns : List ℕ) → length ns ≡ 3 → ns ≡ get_or ns 0 0 ∷ get_or ns 1 0 ∷ get_or ns 2 0 ∷ []
three [] long = absurd (omega arith)
three (n ∷ []) long = absurd (omega arith)
three (n ∷ m ∷ []) long = absurd (omega arith)
three (n ∷ m ∷ k ∷ []) long = refl
three (n ∷ m ∷ k ∷ j ∷ ns) long = absurd (omega arith)

-- fewer numbers than the letter wants, or wrong ones
pub refused : (c : Command) (l : ℕ) (bytes : List ℕ) (f : LineFault) → l ≡ letter c → Refuses bytes (length (numbers c)) f → (r : Result Command LineFault) → IsErrAnd r (λ e. e ≡ f) → Chosen l bytes r
refused c l bytes f is h r given =
    let p = err_from_is_err_and r given in
    rw (p.1, p.2, h.fault)
    ((c, sym is), λ d e g. h.wrong (numbers d) (arity_is d ∙ ap arity (e ∙ is) ∙ sym (arity_is c)) g)

module _ (line : List ℕ) where
  spelled_readable : (c : Command) → Spells line c → Readable line
  spelled_readable c s = record { some = omega (arith, ap length s.split); short = s.short; known = (c, sym (ap (λ t. get_or t 0 0) s.split)) }

  same_spelled : (c d : Command) → Spells line c → Spells line d → c ≡ d
  same_spelled c d s t =
      let k = sym s.split ∙ t.split in
      let first : letter c ≡ letter d = cc in
      let rest : s.fields ≡ t.fields = cc in
      same_command c d first (same_fields t.fields (numbers c) (numbers d) (subst (λ x. Fields x (numbers c)) rest s.spelled) t.spelled)

  at_ok : (c : Command) (s : Result Command LineFault) → Spells line c → Reads line s → Ok c ≡ s
  at_ok c (Ok d) p q = ap Ok (same_spelled c d p q)
  at_ok c (Err Unreadable) p q = absurd (q (spelled_readable c p))
  at_ok c (Err wrong_fields) p q = absurd (q.1 c p)
  at_ok c (Err OutOfOrder) p q = absurd q
  at_ok c (Err OutOfRange) p q = absurd q
  at_ok c (Err (Table f)) p q = absurd q

  at_unreadable : (s : Result Command LineFault) → (Readable line → ⊥) → Reads line s → Err Unreadable ≡ s
  at_unreadable (Ok d) p q = absurd (p (spelled_readable d q))
  at_unreadable (Err Unreadable) p q = refl
  at_unreadable (Err wrong_fields) p q = absurd (p q.0)
  at_unreadable (Err OutOfOrder) p q = absurd q
  at_unreadable (Err OutOfRange) p q = absurd q
  at_unreadable (Err (Table f)) p q = absurd q

  at_wrong : (s : Result Command LineFault) → Readable line → ((c : Command) → Spells line c → ⊥) → Reads line s → Err wrong_fields ≡ s
  at_wrong (Ok d) p p' q = absurd (p' d q)
  at_wrong (Err Unreadable) p p' q = absurd (q p)
  at_wrong (Err wrong_fields) p p' q = refl
  at_wrong (Err OutOfOrder) p p' q = absurd q
  at_wrong (Err OutOfRange) p p' q = absurd q
  at_wrong (Err (Table f)) p p' q = absurd q

pub one_meaning_lem : OneMeaning
one_meaning_lem line (Ok c) s p q = at_ok line c s p q
one_meaning_lem line (Err Unreadable) s p q = at_unreadable line s p q
one_meaning_lem line (Err wrong_fields) s p q = at_wrong line s p.0 p.1 q
one_meaning_lem line (Err OutOfOrder) s p q = absurd p
one_meaning_lem line (Err OutOfRange) s p q = absurd p
one_meaning_lem line (Err (Table f)) s p q = absurd p

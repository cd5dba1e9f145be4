-- What the pair file call promises.
use Rattle.std.proofs.Common.{◌≡◌, ℕ, ◌*◌, ◌≤◌, ltb, List, [], ◌∷◌, ◌++◌, length, drop, Ok, sym, ap, ◌∙◌, subst}
use Rattle.std.proofs.lemmas.Bool.{le-ltb}
use Rattle.blocks.specs.Limits.{Limits}
use Rattle.stores.specs.Meaning.{Meaning}
use Rattle.table.specs.declared.faults.TableFault.TheVariants.{Bytes, Output}
use Rattle.table.specs.Yards.{yard_of}
use Rattle.table.specs.Levels.{size}
use Rattle.table.specs.Evening.{Settled}
use Rattle.table.specs.Calls.{model_of, first, ◌⇒◌}
use Rattle.table.specs.Files.{pair_file, pair_count, file_refusal, FilePromised}
use Rattle.table.proofs.Refusing.{some_none, passes}
use Rattle.table.proofs.Accepting.{same_yard}
use Rattle.table.proofs.Writing.{file_length}

module _ (L : Limits) (bytes : ℕ) (m : Meaning) (room : ℕ) (out : List ℕ) where
  past : size m ≤ bytes → file_refusal (model_of m room) bytes (length out) ≡ first (ltb (length out) (4 * pair_count (yard_of m)) ⇒ Output (length out) ∷ [])
  past h = passes (ltb bytes (size m)) (Bytes bytes) (ltb (length out) (4 * pair_count (yard_of m)) ⇒ Output (length out) ∷ []) (le-ltb bytes (size m) h)

  pub file_made : (n : Meaning) (room' : ℕ) (out' : List ℕ) (r : ℕ) → size m ≤ bytes → 4 * pair_count (yard_of m) ≤ length out → Settled m n L → room' ≡ room
      → r ≡ length (pair_file n) → out' ≡ pair_file n ++ drop (length (pair_file n)) out → FilePromised L bytes m n room room' out out' (Ok r)
  file_made n room' out' r h w s k e b =
      let y = same_yard m n s.pairs in
      record {
        refused = λ f g. absurd (some_none f (sym g ∙ past h ∙ passes (ltb (length out) (4 * pair_count (yard_of m))) (Output (length out)) [] (le-ltb (length out) (4 * pair_count (yard_of m)) w)));
        accepted = λ _. record {
          answered = ap Ok e;
          bytes = b;
          count = file_length n;
          model = λ i. record { yard = y i; room = k i };
          even = s.even;
          sides = s.same;
        };
      }

-- settling changes no pair, so an output that is long enough stays so
pub still_long : (m n : Meaning) (L : Limits) (len : ℕ) → Settled m n L → 4 * pair_count (yard_of m) ≤ len → 4 * pair_count (yard_of n) ≤ len
still_long m n L len s h = subst (λ Y. 4 * pair_count Y ≤ len) (sym (same_yard m n s.pairs)) h

-- Nothing stands that no entry is of.
use Rattle.std.specs.Prelude.{◌≡◌, ℕ, suc, ◌≤◌, false, List, [], ◌∷◌, None, refl}
use Rattle.std.specs.List.{All}
use Rattle.std.proofs.Common.{arith}
use Rattle.std.proofs.lemmas.Bool.Decides.{nat_tests}
use Rattle.rolls.specs.declared.Entry.{Entry}
use Rattle.stores.specs.Meaning.{Bounded}
use Rattle.rolls.specs.Rolls.{Inside, names, standing, meaning}

pub standing_free : (xs : List Entry) (b p : ℕ) → All (λ e. names e.pair b p ≡ false) xs → standing xs b p ≡ None
unfolding standing
standing_free [] b p free = refl
standing_free (x ∷ xs) b p free = grind (arith, free 0 x (omega arith), standing_free xs b p (λ k d h. free (suc k) d (omega arith)))

-- nothing stands outside the sizes
pub bounded : (xs : List Entry) (buses posts : ℕ) → buses ≤ 256 → posts ≤ 256 → Inside xs buses posts → Bounded (meaning xs buses posts)
bounded xs buses posts few_buses few_posts inside = record {
  few_buses = few_buses;
  few_posts = few_posts;
  no_bus = λ b p h. standing_free xs b p (λ k d w. grind (arith, nat_tests, inside k d w));
  no_post = λ b p h. standing_free xs b p (λ k d w. grind (arith, nat_tests, inside k d w));
}

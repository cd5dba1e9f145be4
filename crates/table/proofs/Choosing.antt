-- The lowest level at which any node found is sought.
use Rattle.std.proofs.Common.{◌≡◌, ℕ, ◌+◌, ◌<◌, Bool, true, false, ap, ◌∙◌, inl, inr, arith}
use Rattle.std.proofs.lemmas.Bool.{cases_eq, cases_lt, both_ways}
use Rattle.table.specs.declared.queues.Queue.{Queue}
use Rattle.table.specs.Searches.{len, node}
use Rattle.table.specs.Levels.{Upward}
use Rattle.table.specs.Updates.{Chosen}

-- nothing found is sought at the levels below
abbrev pub NoneBelow : (ℕ → ℕ → Bool) → Queue → ℕ → Type 0
NoneBelow sought q level = (c i : ℕ) → c < level → i < len q → sought c (node q i) ≡ false

module _ (sought : ℕ → ℕ → Bool) (q : Queue) (level : ℕ) (none : NoneBelow sought q level) where
  pub none_here : ((i : ℕ) → i < len q → sought level (node q i) ≡ false) → NoneBelow sought q (level + 1)
  none_here here c i l w = elim (cases_eq c level) [ inl s ↦ ap (λ k. sought k (node q i)) s ∙ here i w | inr d ↦ none c i (omega arith) w ]

  pub chosen_here : (place : ℕ) → Upward sought → level < 256 → place < len q → sought level (node q place) ≡ true → Chosen sought q place
  chosen_here place up ll lp e = record {
    inside = lp;
    wherever = λ c i lc li s. elim (cases_lt c level) [
      | inl h ↦ absurd (both_ways (sought c (node q i)) (none c i h li) s)
      | inr h ↦ up level c (node q place) h lc e
    ];
    which = inr (level, ll, e);
  }

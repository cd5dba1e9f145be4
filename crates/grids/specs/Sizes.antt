-- Nothing stands outside the sizes of a grid.
use Rattle.std.specs.Prelude.{◌≡◌, ℕ, ◌≤◌, Bool, false, None, Option, cond, ◌&&◌, List, nat_lt}
use Rattle.std.proofs.Common.{ap}
use Rattle.std.proofs.lemmas.Bool.{le-ltb, and_left, and_right}
use Rattle.stores.specs.declared.pairs.Side.{Side}
use Rattle.stores.specs.Meaning.{Bounded}
use Rattle.grids.specs.Cells.{rows_mean}

outside : (t u : Bool) (s : Option Side) → (t && u) ≡ false → cond (t && u) s None ≡ None
outside t u s e = ap (λ v. cond v s None) e

pub rows_bounded : (xs : List ℕ) (B P : ℕ) → B ≤ 256 → P ≤ 256 → Bounded (rows_mean xs B P)
rows_bounded xs B P hb hp = record {
  few_buses = hb;
  few_posts = hp;
  no_bus = λ b p h. outside (nat_lt b B) (nat_lt p P) _ (and_left (nat_lt b B) (nat_lt p P) (le-ltb b B h));
  no_post = λ b p h. outside (nat_lt b B) (nat_lt p P) _ (and_right (nat_lt b B) (nat_lt p P) (le-ltb p P h));
}

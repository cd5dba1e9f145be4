-- The law of limits, of what a sheet says.
use Rattle.std.specs.Prelude.{ℕ, List}
use Rattle.std.proofs.Common.{arith, mul-suc}
use Rattle.std.proofs.lemmas.Nat.{mul-le}
use Rattle.blocks.specs.Limits.{Lawful}
use Rattle.rules.specs.Rated.{post_step, rated}

pub rated_lawful : (sheet : List ℕ) (buses posts : ℕ) → Lawful (rated sheet buses posts)
rated_lawful sheet buses posts = record {
  rises = λ a p h. grind (arith, mul-suc);
  bus_fits = λ b. grind arith;
  post_fits = λ a p h. grind (arith, mul-le (post_step sheet buses posts p) a 63 256);
}

-- A post's limit never falls from a level to a higher one.
use Rattle.std.proofs.Common.{ℕ, zero, suc, ◌≤◌, arith}
use Rattle.blocks.specs.Limits.{Limits, Lawful}

module _ (L : Limits) (law : Lawful L) (p : ℕ) where
  pub never_falls : (a b : ℕ) → a ≤ b → b ≤ 256 → L.post a p ≤ L.post b p
  never_falls a zero h w = grind arith
  never_falls a (suc b) h w = grind (arith, never_falls a b, law.rises b p)

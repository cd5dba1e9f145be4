-- A level is tight if and only if what is over is the shortfall.
use Rattle.std.proofs.Common.{◌≡◌, ℕ, arith}
use Rattle.blocks.specs.Blocks.{Shortfall}
use Rattle.blocks.specs.Networks.{Leads, Network, load, over, leads_in, Tight}
use Rattle.blocks.proofs.Duality.{weak_duality, attained_tight}
use Rattle.blocks.proofs.Reaching.{tight_attained}

pub tight_shortfall : (N : ℕ) (leads : Leads) (ℓ : ℕ → ℕ) → Network N leads → Tight N leads ℓ → Shortfall N (leads_in N leads) ℓ (over N (load N leads) ℓ)
tight_shortfall N leads ℓ net t = record { most = weak_duality N leads ℓ; some = tight_attained N leads ℓ net t }

pub shortfall_tight : (N : ℕ) (leads : Leads) (ℓ : ℕ → ℕ) → Network N leads → (s : ℕ) → Shortfall N (leads_in N leads) ℓ s → over N (load N leads) ℓ ≡ s → Tight N leads ℓ
shortfall_tight N leads ℓ net s f e =
    let X = f.some.0 in
    let a = f.some.1 in
    attained_tight N leads ℓ net (X, omega arith)

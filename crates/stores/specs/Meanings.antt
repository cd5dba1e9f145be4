-- When two meanings are equal.
use Rattle.std.specs.Prelude.{◌≡◌, ℕ}
use Rattle.std.proofs.Common.{ap, ◌∙◌}
use Rattle.std.proofs.Math.Path.{fun_ext}
use Rattle.stores.specs.Meaning.{Meaning}

-- meanings that agree place by place are equal
pub same_meaning : (m n : Meaning) → m.buses ≡ n.buses → m.posts ≡ n.posts → ((b p : ℕ) → m.standing b p ≡ n.standing b p) → m ≡ n
same_meaning m n eb ep es =
    ap (λ x. record { buses = x; posts = m.posts; standing = m.standing }) eb
    ∙ (ap (λ x. record { buses = n.buses; posts = x; standing = m.standing }) ep
    ∙ ap (λ f. record { buses = n.buses; posts = n.posts; standing = f }) (fun_ext (λ b. fun_ext (λ p. es b p))))

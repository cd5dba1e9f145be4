use Rattle.std.proofs.Common.{◌≡◌, ◌<◌, ◌≤◌, ℕ, false, ap, rules, arith, Some, None, Option}
use Rattle.std.proofs.lemmas.Iterator.{first_from_Range}
use Rattle.std.specs.Option.{MatchOption, unwrap_or}
use borrow.Author.Tests.{tests}
use Rattle.blocks.specs.Sums.{bit}
use Rattle.blocks.proofs.Sums.{sum_none}
use Rattle.stores.specs.Meaning.{Meaning, by_post}
use Rattle.stores.specs.declared.pairs.Side.TheVariants.{Post as post_side}
use Rattle.table.specs.Buses.{on_side}
use Rattle.table.proofs.buses.first_carrying.Goals as goal

found : (m : Meaning) (b n : ℕ) (r : Option ℕ) → 0 < on_side m post_side b → n ≡ m.posts
    → MatchOption r ((p : ℕ) → 0 ≤ p → p < n → by_post (m.standing b p) ≡ false) (λ i. (0 ≤ i) × (i < n) × (m.standing b i ≡ Some post_side) × ((p : ℕ) → 0 ≤ p → p < i → by_post (m.standing b p) ≡ false))
    → m.standing b (unwrap_or r 0) ≡ Some post_side
found m b n (Some i) some e h = h.2
found m b n None some e h =
    let none = sum_none m.posts (λ (p : ℕ). bit (by_post (m.standing b p))) (λ p l. ap bit (h p (omega arith) (omega (arith, l, e)))) in
    absurd (omega (arith, none, some))

pub returns : goal.returns
returns g c =
    let m = g.S.View.means c.args.view.now in
    let first = first_from_Range _ _ _ _ (λ p. m.standing c.args.bus p ≡ Some post_side) (λ p. by_post (m.standing c.args.bus p) ≡ false)
    c.find.ensures.ran (λ x q k. search (rules, tests)) (λ x q k. search (rules, tests)) in
    let at = found m c.args.bus _ _ c.requires c.posts.ensures first in
    search rules

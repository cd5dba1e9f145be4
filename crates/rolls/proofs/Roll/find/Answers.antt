use Rattle.std.proofs.Common.{arith, rules}
use Rattle.std.proofs.lemmas.List.Sorted.{answers_always}
use Rattle.rolls.specs.Rolls.{key}
use Rattle.rolls.proofs.Places.{by_key, keys_searched, searched}
use Rattle.rolls.proofs.Roll.find.Goals as goal

-- the closure gives the key of an entry's pair, and the slice is the roll's entries
pub returns : goal.returns
returns c =
    let roll = c.args.self.now in
    let facts = c.binary_search_by_key.ensures in
    let position = facts.position (λ entry. key entry.pair) (answers_always _ _ _ (λ f a r g called. search rules)) in
    let bound = rw c.deref.ensures.0 at facts.bound in
    searched roll.entries.items c.args.pair roll.ascending _ bound
    (keys_searched roll.entries.items c.args.pair (λ k d lt. by_key _ c.args.pair (omega (arith, roll.inside k d lt)) (omega arith)) _ bound (rw (c.deref.ensures.0, c.sort_key.ensures) at position))

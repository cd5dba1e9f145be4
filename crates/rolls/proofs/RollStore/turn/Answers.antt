use Rattle.std.proofs.Common.{◌≡◌, ℕ, List, length, set, get_or, ap, ◌∙◌, arith}
use Rattle.std.proofs.lemmas.List.{length-set}
use Rattle.std.proofs.lemmas.List.Elements.{All-set}
use Rattle.arrayvec.specs.ArrayVec.{ArrayVec, with_items}
use Rattle.arrayvec.proofs.ArrayVecLemmas.{items-with_items}
use Rattle.stores.specs.declared.pairs.Pair.{Pair}
use Rattle.stores.specs.declared.pairs.Side.{Side}
use Rattle.stores.specs.declared.pairs.Side.TheVariants.{Bus}
use Rattle.stores.specs.Meaning.{pair}
use Rattle.rolls.specs.declared.Entry.{Entry}
use Rattle.rolls.specs.Rolls.{Within, Here}
use Rattle.rolls.proofs.Changes.{gap_absent, here_carried, turned_ascending, turned_means}
use Rattle.rolls.proofs.RollStore.turn.Goals as goal

-- what is read past the end
abbrev blank : Entry
blank = record { pair = pair 0 0; side = Bus }

-- the entries after the write of a side, through the slice xs
written : (v : ArrayVec Entry) (xs : List Entry) (q : Pair) (i : ℕ) (side : Side) → xs ≡ v.items → Here v.items q i
    → (with_items v (set xs i (record { pair = (get_or xs i blank).pair; side = side }))).items ≡ set v.items i (record { pair = q; side = side })
written v xs q i side is here =
    let at : (get_or v.items i blank).pair ≡ q = here.same blank in
    let same : set xs i (record { pair = (get_or xs i blank).pair; side = side }) ≡ set v.items i (record { pair = q; side = side }) = cc in
    items-with_items v _ (length-set xs i _ ∙ ap length is) ∙ same

pub returns-in_default : goal.returns-in_default
returns-in_default c =
    let absent = gap_absent _ c.args.pair _ c.in_default.ensures in
    grind (arith, absent)

pub invariant_of-self : goal.invariant_of-self
invariant_of-self c =
    let s = c.args.self.now in
    let here = c.in-Ok.ensures in
    let kept : Within s.buses s.posts (record { pair = c.args.pair; side = c.opposite.result }) = (grind (arith, c.in_ok-admit.ensures), grind (arith, c.in_ok-admit.ensures)) in
    let items = written s.entries c.deref_mut.result.now c.args.pair c.in-Ok.at c.opposite.result c.deref_mut.ensures.value here in
    record {
      few_buses = s.few_buses;
      few_posts = s.few_posts;
      bounded = s.bounded;
      within = omega (arith, ap length items, length-set {A = Entry}, s.within);
      ascending = rw items (turned_ascending s.entries.items s.ascending c.args.pair c.in-Ok.at here _);
      inside = rw items (All-set (Within s.buses s.posts) s.entries.items c.in-Ok.at _ kept s.inside);
    }

pub returns : goal.returns
returns c =
    let s = c.args.self.now in
    let here = c.in-Ok.ensures in
    let side = here_carried _ s.ascending c.args.pair _ here blank in
    let means = turned_means _ s.ascending c.args.pair _ here c.opposite.result s.buses s.posts in
    let long = length-set s.entries.items c.in-Ok.at (record { pair = c.args.pair; side = c.opposite.result }) in
    let items = written s.entries c.deref_mut.result.now c.args.pair c.in-Ok.at c.opposite.result c.deref_mut.ensures.value here in
    rw items (grind (arith, side, means, long, c.opposite.ensures.carries, c.deref.ensures.0))

use Rattle.std.proofs.Common.{refl, arith}
use Rattle.table.proofs.Searching.{searched_of, space, pushed_state}
use Rattle.table.proofs.searches.Search.push.Goals as goal

pub push-requires : goal.push-requires
push-requires g c =
    let s = searched_of c.args.self.now.searched in
    omega (arith, s.few, space _ _ _ _ s c.args.to c.requires.inside c.requires.fresh)

pub invariant_of-self : goal.invariant_of-self
invariant_of-self g c = record {
  searched = ∣ pushed_state _ _ c.args.self.now.queue (record { found = c.push.new.self; next = c.args.self.now.queue.next }) _ c.args.to c.args.place (searched_of c.args.self.now.searched) c.requires.inside c.requires.fresh
      (record { found = c.push.ensures.items; next = refl }) c.requires.led ∣₁;
}

use Rattle.std.proofs.Common.{ℕ, ◌+◌, ap, ◌∙◌, subst}
use Rattle.stores.specs.Meaning.{Meaning}
use Rattle.table.specs.Searches.{TurnedBack}
use Rattle.table.specs.Levels.{under}
use Rattle.table.specs.Updates.{AllLeading, Chosen}
use Rattle.table.proofs.EvenSides.{under_upward}
use Rattle.table.proofs.Adding.{added_to_post}
use Rattle.table.proofs.additions.add_to_post.Goals as goal

pub lowest-place-requires : goal.lowest-place-requires
lowest-place-requires g c = record {
  some = c.leading-queue.ensures.some;
  up = under_upward c.loads-loads.result (g.R.Rule.limits c.args.rule.now) c.buses-buses.result c.posts-posts.result (g.met.R.Rule.lawful c.args.rule.now).rises;
}

pub returns : goal.returns
returns g c =
    let f = c.requires.fits in
    let put_in = c.add.ensures.adds f.bus f.post f.absent f.place in
    let m = g.S.View.means c.args.store.now in
    let after-add = put_in.0.meaning in
    let all = subst (λ (k : Meaning). AllLeading k ((g.S.View.means c.args.store.now).buses + c.args.pair.post) c.leading-queue.result) after-add
    (subst (λ (b : ℕ). AllLeading (g.S.View.means c.add.new.self) (b + c.args.pair.post) c.leading-queue.result) c.buses-buses.ensures c.leading-queue.ensures) in
    let chosen = subst (λ (b : ℕ). Chosen (under c.loads-loads.result (g.R.Rule.limits c.args.rule.now) b (g.S.View.means c.args.store.now).posts) c.leading-queue.result c.lowest-place.result) c.buses-buses.ensures
    (subst (λ (p : ℕ). Chosen (under c.loads-loads.result (g.R.Rule.limits c.args.rule.now) c.buses-buses.result p) c.leading-queue.result c.lowest-place.result) c.posts-posts.ensures c.lowest-place.ensures) in
    let turned = subst (λ (k : Meaning). TurnedBack c.leading-queue.result c.lowest-place.result k (g.S.View.means c.turn_back.new.store)) after-add c.turn_back.ensures.turned in
    record {
      room = ap (λ (k : ℕ). k + 1) c.turn_back.ensures.room ∙ put_in.1;
      added = added_to_post m (g.R.Rule.limits c.args.rule.now) (g.met.R.Rule.lawful c.args.rule.now).rises (g.met.S.View.bounded c.args.store.now) c.requires.even c.args.pair.bus c.args.pair.post f.bus f.post f.absent
          c.requires.full c.loads-loads.result c.loads-loads.ensures c.leading-queue.result all c.lowest-place.result chosen (g.S.View.means c.turn_back.new.store) turned;
    }

use Rattle.std.proofs.Common.{refl, ◌∙◌}
use Rattle.table.proofs.Trails.{turning_none, turning_more, turning_end}
use Rattle.table.proofs.turning.turn_back.Goals as goal

pub loop-at-init : goal.loop-at-init
loop-at-init g c = (refl, turning_none _ _ _ c.requires.over c.requires.found)

pub loop-at-preserved : goal.loop-at-preserved
loop-at-preserved g c = (
  c.turn_pair.ensures.room ∙ c.loop-at.invariant.0,
  rw c.as_slice-found.ensures.value (turning_more _ _ _ c.requires.over _ _ c.loop-at.invariant.1 (rw c.as_slice-found.ensures.value at c.loop-at-test.true) _ (rw c.as_slice-found.ensures.value at c.turn_pair.ensures.turned)),
)

pub returns : goal.returns
returns g c = record { room = c.loop-at.invariant.0; turned = turning_end _ _ _ c.requires.over _ _ c.loop-at.invariant.1 (rw c.as_slice-found.ensures.value at c.loop-at-test.false) }

use Rattle.std.proofs.Common.{◌<◌, sym, ◌∙◌, arith}
use Rattle.table.proofs.TurningSome.{stands_on, turning_some_skip, turning_some_more, turning_some_end}
use Rattle.table.proofs.buses.turn_some.Goals.{then-left-gt0+then-carries, else-left-gt0, else-left-gt0-via-then-left-gt0+else-carries, else-left-gt0-via-else-left-gt0}
use Rattle.table.proofs.buses.turn_some.Goals as goal

pub loop-post-preserved : goal.loop-post-preserved
loop-post-preserved g c =
    let i = c.loop-post.invariant.1 in
    elim c.if-left-gt0.branch [
      | then-left-gt0+then-carries w ↦
          let lb : c.args.bus < (g.S.View.means c.loop-post.store).buses = omega (arith, c.requires.bus, i.only.buses) in
          let lp : c.loop-post.post < (g.S.View.means c.loop-post.store).posts = omega (arith, c.posts-post-end.ensures, i.only.posts) in
          let on = sym w.if-carries.ensures in
          let d = w.turn.ensures.turns lb lp (stands_on c.args.side ((g.S.View.means c.loop-post.store).standing c.args.bus c.loop-post.post) on) in
          simp (w.store-is, w.left-is) (d.1 ∙ c.loop-post.invariant.0, turning_some_more _ _ _ _ _ _ _ i (omega arith) lp on _ d.0.meaning)
      | else-left-gt0 w ↦ simp (w.store-is, w.left-is) (elim w.else-left-gt0.branch [
        | else-left-gt0-via-then-left-gt0+else-carries v ↦ (c.loop-post.invariant.0, turning_some_skip _ _ _ _ _ _ _ i (λ _. sym v.if-carries.ensures))
        | else-left-gt0-via-else-left-gt0 v ↦ (c.loop-post.invariant.0, turning_some_skip _ _ _ _ _ _ _ i (λ h. absurd (omega (arith, v.if-left-gt0.false))))
      ])
    ]

pub returns : goal.returns
returns g c =
    let i = c.loop-post.invariant.1 in
    record { room = c.loop-post.invariant.0; turned = turning_some_end _ _ _ _ _ _ _ i c.requires.enough (omega (arith, c.posts-post-end.ensures, i.only.posts)) }

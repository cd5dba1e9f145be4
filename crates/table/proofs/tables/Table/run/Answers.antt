use Rattle.std.proofs.Common.{ℕ, ◌≤◌, ◌≢◌, length, get_or, Some, None, sym, refl, ap, ◌∙◌, subst, arith, length-take-le, get_or-set_other}
use lib.ListN.{length-replicate}
use lib.Seq.{length_front}
use Rattle.table.specs.declared.calls.Call.TheVariants.{Settle}
use Rattle.table.specs.declared.calls.Entry.{Entry}
use Rattle.table.specs.Evening.{EvenSides}
use Rattle.table.specs.Lists.{done}
use Rattle.table.proofs.Runs.{settles, step_made, step_under, run_more}
use Rattle.table.proofs.tables.Table.run.Goals as goal

pub loop-entry-init : goal.loop-entry-init
loop-entry-init g c = (
  ap length c.settle.ensures.zero ∙ length-replicate {A = ℕ} 512 0,
  refl,
  subst (λ ρ. EvenSides (g.S.View.means c.settle.new.self.store) (g.R.Rule.limits ρ)) (sym c.settle.ensures.rule)
      (settles _ _ _ _ _ _ (g.met.S.View.bounded c.args.self.now.store) c.settle.ensures.does).even,
  done,
  λ k d h. refl,
)

pub loop-entry-preserved : goal.loop-entry-preserved
loop-entry-preserved g c =
    let e : Entry = record { call = Settle; bytes = 0; answer = None } in
    let asked = get_or c.loop-entry.entry-items c.loop-entry.entry-index e in
    let made : Entry = record { call = asked.call; bytes = asked.bytes; answer = Some c.make.result } in
    let few : c.min-count.result ≤ length c.loop-entry.bytes = omega (arith, c.min-count.ensures, c.loop-entry.invariant.0) in
    let s =
    step_made (g.R.Rule.limits c.loop-entry.self.rule) (g.S.View.means c.loop-entry.self.store) (g.S.View.means c.make.new.table.store)
    (g.S.Store.room c.loop-entry.self.store) (g.S.Store.room c.make.new.table.store) _ asked made c.make.result
    (g.met.S.View.bounded c.loop-entry.self.store) (length-take-le c.min-count.result c.loop-entry.bytes few ∙ c.min-count.ensures) c.loop-entry.invariant.2 c.make.ensures.does refl refl refl in (
      length_front c.loop-entry.bytes c.make.new.bytes c.min-count.result c.make.auto.bytes ∙ c.loop-entry.invariant.0,
      c.make.ensures.rule ∙ c.loop-entry.invariant.1,
      subst (λ ρ. EvenSides (g.S.View.means c.make.new.table.store) (g.R.Rule.limits ρ)) (sym c.make.ensures.rule) s.even,
      run_more (g.R.Rule.limits c.settle.new.self.rule) c.args.entries.now c.loop-entry.entry-items c.loop-entry.entry-index e made (omega arith) (omega arith)
          (c.loop-entry.invariant.4 c.loop-entry.entry-index e (omega arith)) c.loop-entry.invariant.3
          (step_under (ap g.R.Rule.limits c.loop-entry.invariant.1) s),
      λ k d h. let ne : k ≢ c.loop-entry.entry-index = omega arith in rw get_or-set_other (c.loop-entry.invariant.4 k d (omega arith)),
    )

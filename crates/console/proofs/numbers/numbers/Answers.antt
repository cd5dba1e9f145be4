use Rattle.std.proofs.Common.{◌≡◌, ℕ, ◌≤◌, ◌∷◌, length, take, drop, ap, ◌∙◌, subst, arith}
use Rattle.std.specs.Option.{ok_or}
use Rattle.std.proofs.lemmas.List.{length-drop, length-set, take_all}
use Rattle.std.proofs.lemmas.Result.{err_from_is_err_and}
use Rattle.console.proofs.Cuts.{parts, left, Numbers, next_part, some_part, fields_from_numbers, miscounted, numbers_more, no_number}
use Rattle.console.specs.declared.faults.LineFault.TheVariants.{Fields}
use Rattle.console.proofs.numbers.numbers.Goals as goal

pub returns-in_err-ok_or : goal.returns-in_err-ok_or
returns-in_err-ok_or g c =
    let p = err_from_is_err_and c.from_residual.result c.from_residual.ensures.1 in
    let none = c.in_err-ok_or.ensures.ok_part in
    let fault : c.in_err-ok_or.field-0.0 ≡ Fields = cc (c.in_err-ok_or.ensures.value, ap (λ r. ok_or r Fields) none) in
    rw (p.1, p.2, fault) (miscounted c.args.fields.now g.row.N (λ same. omega (arith, ap length (c.loop-place.invariant.0 ∙ ap left none), length-drop c.loop-place.place-index (parts c.args.fields.now))))

pub returns-in_err-place : goal.returns-in_err-place
returns-in_err-place g c =
    let p = err_from_is_err_and c.from_residual-in_err-place.result c.from_residual-in_err-place.ensures.1 in
    let next : drop c.loop-place.place-index (parts c.args.fields.now) ≡ c.cut.result.0.now ∷ left c.cut.result.1 =
    next_part _ c.loop-place.rest c.cut.result.1 c.in_ok-ok_or.field-0 c.cut.result.0.now c.loop-place.invariant.0 c.in_ok-ok_or.ensures.ok_part c.cut.ensures in
    rw (p.1, p.2) (no_number c.args.fields.now g.row.N c.loop-place.place-index c.cut.result.0.now (left c.cut.result.1) _ next c.in_err-place.ensures)

pub loop-place-preserved : goal.loop-place-preserved
loop-place-preserved g c =
    let next : drop c.loop-place.place-index (parts c.args.fields.now) ≡ c.cut.result.0.now ∷ left c.cut.result.1 =
    next_part _ c.loop-place.rest c.cut.result.1 c.in_ok-ok_or.field-0 c.cut.result.0.now c.loop-place.invariant.0 c.in_ok-ok_or.ensures.ok_part c.cut.ensures in
    let more = numbers_more (parts c.args.fields.now) c.loop-place.place-index c.cut.result.0.now (left c.cut.result.1) next c.loop-place.place-items c.in_ok-place.field-0 (omega arith) c.loop-place.invariant.1 c.in_ok-place.ensures in
    (more.0, more.1, omega (arith, length-set {A = ℕ}))

pub returns-in-Some : goal.returns-in-Some
returns-in-Some g c = miscounted c.args.fields.now g.row.N (λ same. omega (arith, some_part c.in-Some.field-0.now, ap length (c.loop-place.invariant.0 ∙ ap left c.in-Some.is), length-drop c.loop-place.place-index (parts c.args.fields.now)))

pub returns-in-None : goal.returns-in-None
returns-in-None g c =
    let few : length (parts c.args.fields.now) ≤ c.loop-place.place-index = omega (arith, ap length (c.loop-place.invariant.0 ∙ ap left c.in-None.is), length-drop c.loop-place.place-index (parts c.args.fields.now)) in
    let long : length c.loop-place.place-items ≤ c.loop-place.place-index = omega arith in
    fields_from_numbers c.args.fields.now c.loop-place.place-items
    (subst (Numbers (parts c.args.fields.now)) (take_all c.loop-place.place-index c.loop-place.place-items long)
    (subst (λ t. Numbers t (take c.loop-place.place-index c.loop-place.place-items)) (take_all c.loop-place.place-index (parts c.args.fields.now) few) c.loop-place.invariant.1))

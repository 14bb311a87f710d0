use Rattle.std.proofs.Common.{◌≡◌, ◌+◌, ◌-◌, cond, get_or, Some, ap, sym, ◌∙◌, arith}
use Rattle.line_calls.proofs.Places.{position-from_0, position_from-step}
use Rattle.line_calls.proofs.scripts.places_of.Goals as goal
use Rattle.file_model.specs.CaseCounts.{has_id}

pub loop-place-preserved : goal.loop-place-preserved
loop-place-preserved c = λ id.
    let i = c.loop-place.place - 1 in
    let next : i + 1 ≡ c.loop-place.place = omega arith in
    let later = rw (← next) at c.loop-place.invariant id in
    c.in_ok-insert.ensures.updates.0 (id.type_no, id.place) ∙ ap (λ o. cond (has_id id (get_or c.args.decls.now i c.index-decls-place.result)) (Some i) o) later
    ∙ sym (position_from-step (has_id id) c.args.decls.now i c.index-decls-place.result (omega arith))

pub returns : goal.returns
returns c = λ id.
    let done : c.loop-place.place ≡ 0 = omega arith in
    (rw done at c.loop-place.invariant id) ∙ position-from_0 (has_id id) c.args.decls.now

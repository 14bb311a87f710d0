use Rattle.case_audit.proofs.{Common.{[], ◌∙◌, ap, asked_in, calls_number, fold, given, kind_put, length-range_with_len, range_with_len, replicate, script_of, sym, take}, Cells.kinds-more, Changes.nothing-each, Scripts.script-length}
use Rattle.case_audit.proofs.Scripts.{script-more}
use Rattle.case_audit.proofs.owed.owed_kinds.Goals as goal

pub loop-phase-init : goal.loop-phase-init
loop-phase-init c =
    let types = range_with_len 0 c.args.types in
    c.in_ok-owed.ensures ∙ (ap (λ n. replicate n []) (sym (length-range_with_len 0 c.args.types)) ∙ nothing-each types [])

pub loop-phase-preserved : goal.loop-phase-preserved
loop-phase-preserved c =
    let i = c.loop-phase.phase in
    let phases = c.args.phases.now in
    let types = range_with_len 0 c.args.types in
    let row = c.index-phases-phase.result in
    let more = script-more phases i row c.loop-phase-test.true c.index-phases-phase.is in
    let at = script-length phases i c.loop-phase-test.true in
    c.in_ok-add_kind_lines.ensures
    ∙ (ap (λ xs. fold (kind_put i) xs (asked_in c.as_slice.result.now)) c.loop-phase.invariant
    ∙ (ap (λ ls. fold (kind_put i) (given calls_number types (script_of (take i phases))) (asked_in ls)) c.as_slice.ensures.value
    ∙ (kinds-more c.args.types i (script_of (take i phases)) (asked_in row.items) at ∙ ap (given calls_number types) (sym more))))

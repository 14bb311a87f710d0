use Rattle.case_audit.proofs.{Common.{[], ◌∙◌, ap, asked_in, calls_decl, case_put, fold, given, numbers, replicate, script_of, sym, take}, Cells.cases-more, Changes.nothing-each, Scripts.{script-length, script-more}}
use Rattle.case_audit.proofs.owed.owed_cases.Goals as goal

pub loop-phase-init : goal.loop-phase-init
loop-phase-init c = (c.in_ok-owed.ensures ∙ (ap (λ n. replicate n []) c.len.ensures ∙ nothing-each c.args.file.now.cases []), c.in_ok-script.ensures)

pub loop-phase-preserved : goal.loop-phase-preserved
loop-phase-preserved c =
    let i = c.loop-phase.phase in
    let phases = c.args.phases.now in
    let cases = c.args.file.now.cases in
    let row = c.index-phases-phase.result in
    let more = script-more phases i row c.loop-phase-test.true c.index-phases-phase.is in
    let at = script-length phases i c.loop-phase-test.true in (
      c.in_ok-add_case_lines.ensures
          ∙ (ap (λ f. fold (case_put f.cases i) (numbers c.loop-phase.owed.items) (asked_in c.as_slice.result.now)) c.in_ok-script.ensures
          ∙ (ap (λ xs. fold (case_put cases i) xs (asked_in c.as_slice.result.now)) c.loop-phase.invariant.0
          ∙ (ap (λ ls. fold (case_put cases i) (given calls_decl cases (script_of (take i phases))) (asked_in ls)) c.as_slice.ensures.value
          ∙ (cases-more cases i (script_of (take i phases)) (asked_in row.items) at ∙ ap (given calls_decl cases) (sym more))))),
      c.in_ok-script.ensures,
    )

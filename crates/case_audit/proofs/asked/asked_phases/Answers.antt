use Rattle.case_audit.proofs.{Common.{[], ◌++◌, ◌∙◌, ◌∷◌, all_told, ap, asked_by, asked_in, left_by, map-append, script_by, script_of, told_versions}, Telling.{script-asked, script-end, script-step}}
use Rattle.case_audit.proofs.asked.asked_phases.Goals as goal

pub loop-lines-preserved : goal.loop-lines-preserved
loop-lines-preserved c =
    let phases = c.as_slice-lines-items.result.now in
    let told = told_versions c.loop-lines.told in
    let made = script_of c.loop-lines.phases.items in
    let lines = c.lines-item.result in
    let one = c.in_ok-asked_lines.ensures.lines ∙ ap (asked_by told) c.as_slice.ensures in
    let longer =
    ap script_of c.in_ok-push.ensures.items
    ∙ (map-append (λ v. asked_in v.items) c.loop-lines.phases.items (c.in_ok-asked_lines.field-0 ∷ []) ∙ ap (λ ls. made ++ ls ∷ []) one) in
    let behind = c.in_ok-asked_lines.ensures.told ∙ ap (left_by told) c.as_slice.ensures in
    script-step told (told_versions c.asked_lines.new.told) made (script_of c.push.new.self.items) phases c.loop-lines.lines-index lines c.loop-lines-test.true c.lines-item.is longer behind
    ∙ c.loop-lines.invariant

pub returns : goal.returns
returns c =
    let phases = c.as_slice-lines-items.result.now in
    let begun = c.in_ok-told.ensures ∙ ap (λ n. all_told n c.args.kinds.now) c.len.ensures in
    script-end (told_versions c.loop-lines.told) (script_of c.loop-lines.phases.items) phases c.loop-lines.lines-index c.loop-lines-test.false
    ∙ (c.loop-lines.invariant
    ∙ (ap (λ told. script_by told phases) begun
    ∙ (ap (script_by (all_told _ c.args.kinds.now)) c.as_slice-lines-items.ensures ∙ script-asked c.args.file.now c.args.kinds.now c.requires)))

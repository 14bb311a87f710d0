use Rattle.case_audit.proofs.{Common.{◌+◌, ◌∙◌, ◌≡◌, ap, arith, begins_report, false, file_length, if◌then◌else◌, length, suc, sym}, FileLengths.{line-and-rest, line-length}}
use Rattle.case_audit.proofs.dividing.file_length.Goals as goal

pub loop-line-preserved : goal.loop-line-preserved
loop-line-preserved c =
    let rest = c.loop-line.rest.now in
    let line = c.in-Some.line.now in
    let more = c.in-Some.more.now in
    let not : begins_report line ≡ false = sym c.begins_report.ensures ∙ c.if-begins_report.false in
    let long : file_length rest ≡ length line + suc (file_length more) = line-length rest line more c.in-Some.ensures.split ∙ ap (λ test. if test then 0 else length line + suc (file_length more)) not in
    let whole = line-and-rest rest line more c.in-Some.ensures.split in
    (omega (arith, c.loop-line.invariant.0, long), omega (arith, c.loop-line.invariant.1, whole))

use Rattle.case_audit.proofs.{Common.{◌+◌, ◌∙◌, ap, arith, false, file-auditable, file-workable, IsFirstWrong, IsReport, length, Some, subst, sym, true}, FirstLines.{feeds-taken, first-wrong}}
use Rattle.case_audit.proofs.reports.audit.Goals as goal

pub judge_report-requires-clause-file : goal.judge_report-requires-clause-file
judge_report-requires-clause-file g c κs _ =
    let (bytes, is) = c.requires.file in
    record { workable = file-workable bytes c.args.file.now is; auditable = file-auditable bytes c.args.file.now is }

pub overflow_cast-result : goal.overflow_cast-result
overflow_cast-result g c =
    let end = c.judge_report.new.report in
    omega (arith, c.lines.ensures, feeds-taken end.at end.text, ap length (c.in_ok-stands.ensures.2.0 ∙ ap (λ s. s.text) c.of-follower.ensures), c.requires.length)

pub overflow_add-result : goal.overflow_add-result
overflow_add-result g c =
    let end = c.judge_report.new.report in
    omega (arith, c.lines.ensures, feeds-taken end.at end.text, ap length (c.in_ok-stands.ensures.2.0 ∙ ap (λ s. s.text) c.of-follower.ensures), c.requires.length)

pub returns-then-stands : goal.returns-then-stands
returns-then-stands g c = first-wrong c.args.file.now c.requires.file c.args.report.now c.judge_report.new.report _ _ true c.of-follower.ensures c.if-stands.true c.in_ok-stands.ensures

pub returns : goal.returns
returns g c =
    let f = c.args.file.now in
    let report = c.args.report.now in
    subst (λ n. IsFirstWrong (IsReport f) report (Some (n + 1))) (sym c.lines.ensures)
    (first-wrong f c.requires.file report c.judge_report.new.report _ _ false c.of-follower.ensures c.if-stands.false c.in_ok-stands.ensures)

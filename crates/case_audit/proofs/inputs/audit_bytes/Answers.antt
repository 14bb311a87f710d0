use Rattle.case_audit.proofs.{Common.{◌∙◌, ◌≡◌, ap, arith, Err, file, is_too_long, IsRefused, IsVerdict, IsVerdictOn, length, report_part, subst, sym, Tells, TellsBytes, TellsReport, true}, AuditEnds.{not-too-long, refused-how, tells-on}}
use Rattle.case_audit.proofs.inputs.audit_bytes.Goals as goal

pub returns-in-Ok : goal.returns-in-Ok
returns-in-Ok g c =
    let bytes = c.args.bytes.now in
    let f = c.in-Ok.file in
    let ends = c.divided.ensures in
    let short = not-too-long bytes c.requires (omega (arith, ap length ends.file, c.if-file-gt-MAX_FILE_BYTES.false)) (omega (arith, ap length ends.report, c.if-report-gt-MOST_REPORT.false)) in
    let is = ap file (sym ends.file) ∙ c.in-Ok.ensures.file in
    let how = subst (λ report. TellsReport g.K.Sink.written g.K.Sink.faults f report c.args.sink.now c.audit_file.new.sink c.audit_file.result) ends.report c.audit_file.ensures in
    tells-on g.K.Sink.written g.K.Sink.faults c.args.sink.now c.audit_file.new.sink (IsVerdict f (report_part bytes)) (IsVerdictOn bytes) ⊥ (IsRefused bytes) ⊥ (is_too_long bytes ≡ true) (λ v right. (short, (f, is, right))) (λ none. absurd none) (λ none. absurd none) c.audit_file.result how

pub returns-in-Err : goal.returns-in-Err
returns-in-Err g c =
    let bytes = c.args.bytes.now in
    let ends = c.divided.ensures in
    let short = not-too-long bytes c.requires (omega (arith, ap length ends.file, c.if-file-gt-MAX_FILE_BYTES.false)) (omega (arith, ap length ends.report, c.if-report-gt-MOST_REPORT.false)) in
    let tells = subst (λ part. Tells (file part) c.in-Err.refusal) ends.file c.in-Err.ensures.refused in
    subst (λ e. TellsBytes g.K.Sink.written g.K.Sink.faults bytes c.args.sink.now c.args.sink.now (Err e)) (sym c.of_file.ensures) (refused-how g.K.Sink.written g.K.Sink.faults bytes c.in-Err.refusal c.args.sink.now short tells)

use Rattle.case_audit.proofs.{Common.{◌≡◌, IsVerdict, subst, sym}, AuditEnds.tells-on}
use Rattle.case_audit.proofs.inputs.audit_file.Goals as goal

pub returns-in-Ok : goal.returns-in-Ok
returns-in-Ok g c =
    let right = IsVerdict c.args.file.now c.args.report.now in
    tells-on g.K.Sink.written g.K.Sink.faults c.args.sink.now c.tell.new.sink (λ v. v ≡ c.in-Ok.verdict) right ⊥ ⊥ ⊥ ⊥ (λ v same. subst right (sym same) c.in-Ok.ensures) (λ none. none) (λ none. none) c.tell.result c.tell.ensures

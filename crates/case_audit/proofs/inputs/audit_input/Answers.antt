use Rattle.case_audit.proofs.{Common.{◌∙◌, ap, Err, refl, subst, sym, TellsBytes}, AuditEnds.{overlong-ends, read-ends}}
use Rattle.case_audit.proofs.inputs.audit_input.Goals as goal

pub returns-in-Ok : goal.returns-in-Ok
returns-in-Ok g c =
    let how = subst (λ bs. TellsBytes g.K.Sink.written g.K.Sink.faults bs c.args.sink.now c.audit_bytes.new.sink c.audit_bytes.result) c.as_slice.ensures c.audit_bytes.ensures in
    read-ends g.S.Source.left g.S.Source.faults g.K.Sink.written g.K.Sink.faults c.args.source.now c.read_to_limit.new.source c.args.sink.now c.audit_bytes.new.sink c.in-Ok.bytes c.in-Ok.ensures.all c.in-Ok.ensures.end c.in-Ok.ensures.within
    (c.read_to_limit.ensures.steady (λ failed. let e = sym failed ∙ c.in-Ok.is in cc)) c.audit_bytes.result how

pub returns-in-Err-Failed : goal.returns-in-Err-Failed
returns-in-Err-Failed g c =
    let is = c.in-Err-Failed.is ∙ ap Err c.in-Err-Failed.field-0-is in
    (c.read_to_limit.ensures.rose is, c.read_to_limit.ensures.failed is, refl)

pub returns-in-Err-NoMemory : goal.returns-in-Err-NoMemory
returns-in-Err-NoMemory g c =
    let is = c.in-Err-NoMemory.is ∙ ap Err c.in-Err-NoMemory.field-0-is in
    (refl, (c.read_to_limit.ensures.steady (λ failed. let e = sym failed ∙ is in cc), c.read_to_limit.ensures.no_memory is))

pub returns-in-Err-TooLong : goal.returns-in-Err-TooLong
returns-in-Err-TooLong g c =
    let is = c.in-Err-TooLong.is ∙ ap Err c.in-Err-TooLong.field-0-is in
    overlong-ends g.S.Source.left g.S.Source.faults g.K.Sink.written g.K.Sink.faults c.args.source.now c.read_to_limit.new.source c.args.sink.now c.args.sink.now (c.read_to_limit.ensures.too_long is)
    (c.read_to_limit.ensures.steady (λ failed. let e = sym failed ∙ is in cc)) refl

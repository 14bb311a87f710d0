use Rattle.process_text.proofs.Common.{◌≡◌, at_place, IfErr, IfOk, Ok, Step, Stops, subst, sym}
use Rattle.file_model.specs.Operating.{operated}
use Rattle.process_text.proofs.stepping.operation_step.Goals as goal

pub returns-in-Ok-clause-ok : goal.returns-in-Ok-clause-ok
returns-in-Ok-clause-ok c =
    subst (λ (o : Step). IfOk c.operated.result (λ place. o ≡ Ok (at_place place c.operated.new.contents)))
    (sym (c.in-Ok.ensures.ok (λ l. operated l c.args.group c.args.contents.now) c.args.contents.now)) c.operated.ensures.ok

pub returns-in-Ok-clause-refused : goal.returns-in-Ok-clause-refused
returns-in-Ok-clause-refused c =
    subst (λ (o : Step). IfErr c.operated.result (λ stop. Stops o c.operated.new.contents stop))
    (sym (c.in-Ok.ensures.ok (λ l. operated l c.args.group c.args.contents.now) c.args.contents.now)) c.operated.ensures.refused

pub returns-in-Err-clause-refused : goal.returns-in-Err-clause-refused
returns-in-Err-clause-refused c = c.in-Err.ensures.refused (λ l. operated l c.args.group c.args.contents.now) c.args.contents.now

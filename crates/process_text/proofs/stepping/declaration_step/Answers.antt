use Rattle.process_text.proofs.Common.{◌≡◌, at_place, IfErr, IfOk, Ok, Step, Stops, subst, sym}
use Rattle.file_model.specs.Declaring.{declared}
use Rattle.process_text.proofs.stepping.declaration_step.Goals as goal

pub returns-in-Ok-clause-ok : goal.returns-in-Ok-clause-ok
returns-in-Ok-clause-ok c =
    subst (λ (o : Step). IfOk c.declared.result (λ place. o ≡ Ok (at_place place c.declared.new.contents)))
    (sym (c.in-Ok.ensures.ok (λ d. declared d c.args.contents.now) c.args.contents.now)) c.declared.ensures.ok

pub returns-in-Ok-clause-refused : goal.returns-in-Ok-clause-refused
returns-in-Ok-clause-refused c =
    subst (λ (o : Step). IfErr c.declared.result (λ stop. Stops o c.declared.new.contents stop))
    (sym (c.in-Ok.ensures.ok (λ d. declared d c.args.contents.now) c.args.contents.now)) c.declared.ensures.refused

pub returns-in-Err-clause-refused : goal.returns-in-Err-clause-refused
returns-in-Err-clause-refused c = c.in-Err.ensures.refused (λ d. declared d c.args.contents.now) c.args.contents.now

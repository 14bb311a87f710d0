use Rattle.process_text.proofs.Common.{◌≡◌, at_place, IfErr, IfOk, Ok, Step, Stops, subst, sym}
use Rattle.file_model.specs.Scripting.{scripted}
use Rattle.process_text.proofs.stepping.script_step.Goals as goal

pub returns-in-Ok-clause-ok : goal.returns-in-Ok-clause-ok
returns-in-Ok-clause-ok c =
    subst (λ (o : Step). IfOk c.scripted.result (λ place. o ≡ Ok (at_place place c.scripted.new.contents)))
    (sym (c.in-Ok.ensures.ok (λ l. scripted l c.args.at c.args.contents.now) c.args.contents.now)) c.scripted.ensures.ok

pub returns-in-Ok-clause-refused : goal.returns-in-Ok-clause-refused
returns-in-Ok-clause-refused c =
    subst (λ (o : Step). IfErr c.scripted.result (λ stop. Stops o c.scripted.new.contents stop))
    (sym (c.in-Ok.ensures.ok (λ l. scripted l c.args.at c.args.contents.now) c.args.contents.now)) c.scripted.ensures.refused

pub returns-in-Err-clause-refused : goal.returns-in-Err-clause-refused
returns-in-Err-clause-refused c = c.in-Err.ensures.refused (λ l. scripted l c.args.at c.args.contents.now) c.args.contents.now

use Rattle.process_text.proofs.Common.{◌≡◌, at_place, IfErr, IfOk, Ok, Step, Stops, subst, sym, typed}
use Rattle.process_text.proofs.stepping.type_step.Goals as goal

pub returns-in-Ok-clause-ok : goal.returns-in-Ok-clause-ok
returns-in-Ok-clause-ok c =
    subst (λ (o : Step). IfOk c.typed.result (λ place. o ≡ Ok (at_place place c.typed.new.contents)))
    (sym (c.in-Ok.ensures.ok (λ l. typed l c.args.draft c.args.contents.now) c.args.contents.now)) c.typed.ensures.ok

pub returns-in-Ok-clause-refused : goal.returns-in-Ok-clause-refused
returns-in-Ok-clause-refused c =
    subst (λ (o : Step). IfErr c.typed.result (λ stop. Stops o c.typed.new.contents stop))
    (sym (c.in-Ok.ensures.ok (λ l. typed l c.args.draft c.args.contents.now) c.args.contents.now)) c.typed.ensures.refused

pub returns-in-Err-clause-refused : goal.returns-in-Err-clause-refused
returns-in-Err-clause-refused c = c.in-Err.ensures.refused (λ l. typed l c.args.draft c.args.contents.now) c.args.contents.now

use Rattle.adept_actor.proofs.{Common.{◌∙◌, ap, CanCall, desk_view, Err, Ok, refl, Some, subst}, Acts.{case-makes, create-makes, kind-makes, makes-as, migrate-makes}}
use Rattle.line_calls.specs.declared.calls.Call.TheVariants as call
use Rattle.line_calls.specs.declared.calls.Told.TheVariants as tell
use Rattle.adept_actor.proofs.calls.make.Goals as goal

pub returns-in-Kind-clause-made : goal.returns-in-Kind-clause-made
returns-in-Kind-clause-made g c =
    let v = desk_view c.args.desk.now in
    let w = desk_view c.call_kind.new.desk in
    makes-as v w c.in-Kind.is c.err.ensures.value (kind-makes v w c.requires.desk.desk c.in-Kind.event c.in-Kind.type_no c.call_kind.result c.call_kind.ensures.called)

pub returns-in-Case-clause-made : goal.returns-in-Case-clause-made
returns-in-Case-clause-made g c =
    let v = desk_view c.args.desk.now in
    let w = desk_view c.call_case.new.desk in
    makes-as v w c.in-Case.is c.err-in-Case.ensures.value (case-makes v w c.requires.desk.desk c.in-Case.event c.in-Case.id c.call_case.result c.call_case.ensures.called)

pub returns-in-Create-clause-made : goal.returns-in-Create-clause-made
returns-in-Create-clause-made g c =
    let v = desk_view c.args.desk.now in
    let w = desk_view c.create.new.desk in
    let is = c.in-Newest.is ∙ ap (call.Newest c.in-Newest.type_no) c.in-Create.is in
    let own = (subst (CanCall v) is c.requires.able).0 in
    makes-as v w (is ∙ ap (λ t. call.Newest t (tell.Create c.in-Create.id)) own) c.err-in-Create.ensures.value (create-makes v w c.requires.desk.desk c.in-Create.id c.create.result c.create.ensures.called)

pub returns-in-Ok-clause-made : goal.returns-in-Ok-clause-made
returns-in-Ok-clause-made g c =
    let v = desk_view c.args.desk.now in
    let w = desk_view c.migrate_first.new.desk in
    let is = c.in-Newest.is ∙ ap (call.Newest c.in-Newest.type_no) c.in-Migrate.is in
    let enough = (subst (CanCall v) is c.requires.able).2 in
    makes-as v w is c.first_fault.ensures (migrate-makes v w c.requires.desk.desk c.in-Newest.type_no c.in-Migrate.many (Ok c.in-Ok.answers.items.items) enough c.in-Ok.ensures.called)

pub returns-in-Err-clause-made : goal.returns-in-Err-clause-made
returns-in-Err-clause-made g c =
    let v = desk_view c.args.desk.now in
    let w = desk_view c.migrate_first.new.desk in
    let is = c.in-Newest.is ∙ ap (call.Newest c.in-Newest.type_no) c.in-Migrate.is in
    let enough = (subst (CanCall v) is c.requires.able).2 in
    makes-as {o = Some c.in-Err.fault} v w is refl (migrate-makes v w c.requires.desk.desk c.in-Newest.type_no c.in-Migrate.many (Err c.in-Err.fault) enough c.in-Err.ensures.called)

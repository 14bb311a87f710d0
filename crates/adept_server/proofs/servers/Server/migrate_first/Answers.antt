use Rattle.adept_server.proofs.{Common.{◌∙◌, ap, CallsKind, desk_view, Ok, refl, subst}, Asked.{newest_answered, none_asked, migrate_unasked, migrate_untold}}
use Rattle.adept_server.specs.Calling.Migrates.{told}
use Rattle.turn_cell.specs.declared.faults.CallFault.TheVariants.{NoMemory}
use Rattle.type_core.specs.declared.events.KindEvent.TheVariants.{Newest}
use Rattle.adept_server.proofs.servers.Server.migrate_first.Goals as goal

pub answered_version-requires : goal.answered_version-requires
answered_version-requires g c =
    newest_answered c.args.type_no (desk_view c.args.desk.now) (desk_view c.newest.new.desk) c.requires.desk.desk c.in_ok-reply.reply
    (subst (λ a. CallsKind Newest c.args.type_no a (desk_view c.args.desk.now) (desk_view c.newest.new.desk)) c.in_ok-reply.was c.newest.ensures.called) c.requires.defined

pub returns-in_err-reply-clause-called : goal.returns-in_err-reply-clause-called
returns-in_err-reply-clause-called g c =
    migrate_unasked c.args.type_no c.args.many (desk_view c.args.desk.now) (desk_view c.newest.new.desk) c.newest.result _ c.in_err-reply.field-0.0 c.in_err-reply.was
    (none_asked (λ (a : _). a.items.items) c.from_residual.result c.in_err-reply.field-0.0 c.from_residual.ensures.1) c.newest.ensures.called

pub returns-in_err-call_cases-clause-called : goal.returns-in_err-call_cases-clause-called
returns-in_err-call_cases-clause-called g c =
    migrate_untold c.args.type_no c.args.many (desk_view c.args.desk.now) (desk_view c.newest.new.desk) (desk_view c.call_cases.new.desk) c.answered_version.result c.newest.result _ (c.in_ok-reply.was ∙ ap Ok c.answered_version.ensures)
    (none_asked (λ (a : _). a.items.items) c.from_residual-in_err-call_cases.result NoMemory c.from_residual-in_err-call_cases.ensures.1) c.in_err-call_cases.ensures.err c.newest.ensures.called

pub returns-clause-called : goal.returns-clause-called
returns-clause-called g c =
    told c.answered_version.result (desk_view c.newest.new.desk) c.in_ok-call_cases.field-0.items.items refl
    (subst (λ a. CallsKind Newest c.args.type_no a (desk_view c.args.desk.now) (desk_view c.newest.new.desk)) (c.in_ok-reply.was ∙ ap Ok c.answered_version.ensures) c.newest.ensures.called)
    c.in_ok-call_cases.ensures.ok

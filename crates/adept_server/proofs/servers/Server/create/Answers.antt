use Rattle.adept_server.proofs.{Common.{◌∙◌, ap, asked, CallsKind, case_pass, desk_view, HasRoom, IfErr-weaker, inr, Ok, slice_get, subst}, Asked.{create_unasked, newest_answered, room_unasked}}
use Rattle.type_core.specs.declared.events.KindEvent.TheVariants.{Newest}
use Rattle.adept_server.proofs.servers.Server.create.Goals as goal

pub returns-in_err-reply-clause-called : goal.returns-in_err-reply-clause-called
returns-in_err-reply-clause-called g c = create_unasked c.args.id (desk_view c.args.desk.now) (desk_view c.newest.new.desk) c.newest.result c.from_residual.result c.in_err-reply.field-0.0 c.in_err-reply.was c.from_residual.ensures.1 c.newest.ensures.called

pub answered_version-requires : goal.answered_version-requires
answered_version-requires g c =
    newest_answered c.args.id.type_no (desk_view c.args.desk.now) (desk_view c.newest.new.desk) c.requires.desk.desk c.in_ok-reply.reply
    (subst (λ a. CallsKind Newest c.args.id.type_no a (desk_view c.args.desk.now) (desk_view c.newest.new.desk)) c.in_ok-reply.was c.newest.ensures.called) c.requires.defined

pub returns-clause-called : goal.returns-clause-called
returns-clause-called g c =
    asked c.answered_version.result (desk_view c.newest.new.desk)
    (subst (λ a. CallsKind Newest c.args.id.type_no a (desk_view c.args.desk.now) (desk_view c.newest.new.desk)) (c.in_ok-reply.was ∙ ap Ok c.answered_version.ensures) c.newest.ensures.called)
    c.call_case.ensures.called

pub returns-in_err-reply-clause-memory : goal.returns-in_err-reply-clause-memory
returns-in_err-reply-clause-memory g c =
    room_unasked (HasRoom (slice_get (desk_view c.newest.new.desk).kinds c.args.id.type_no)) (HasRoom (case_pass (desk_view c.newest.new.desk) c.args.id)) c.newest.result c.from_residual.result c.in_err-reply.field-0.0 c.in_err-reply.was c.from_residual.ensures.1 c.newest.ensures.memory

pub returns-clause-memory : goal.returns-clause-memory
returns-clause-memory g c = IfErr-weaker c.call_case.result _ _ (λ f room is. inr (room is)) c.call_case.ensures.memory

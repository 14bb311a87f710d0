use Rattle.adept_server.proofs.{Common.{◌∙◌, ap, desk_view, fault_of}, Asked.{kind_failed, now_defined}}
use Rattle.type_core.specs.declared.events.KindEvent.TheVariants.{Define}
use Rattle.adept_server.proofs.servers.Server.define.Goals as goal

pub returns-in_err-copy-clause-called : goal.returns-in_err-copy-clause-called
returns-in_err-copy-clause-called g c = kind_failed (Define c.args.schema.now) c.args.type_no (desk_view c.args.desk.now) c.from_residual.result c.from_residual.ensures.1 c.requires.desk.desk c.requires.there

pub returns-clause-defined : goal.returns-clause-defined
returns-clause-defined g c = λ sound.
    now_defined c.args.type_no (desk_view c.args.desk.now) (desk_view c.call_kind.new.desk) c.requires.desk.desk c.in_ok-copy.field-0 c.call_kind.result c.call_kind.ensures.called (ap fault_of c.in_ok-copy.ensures ∙ sound)

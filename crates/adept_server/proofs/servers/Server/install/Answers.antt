use Rattle.adept_server.proofs.{Asked.kind_failed, Common.desk_view}
use Rattle.type_core.specs.declared.events.KindEvent.TheVariants.{Install}
use Rattle.adept_server.proofs.servers.Server.install.Goals as goal

pub returns-in_err-copy-clause-called : goal.returns-in_err-copy-clause-called
returns-in_err-copy-clause-called g c = kind_failed (Install c.args.ops.now) c.args.type_no (desk_view c.args.desk.now) c.from_residual.result c.from_residual.ensures.1 c.requires.desk.desk c.requires.there

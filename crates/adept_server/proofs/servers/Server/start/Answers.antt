use Rattle.adept_server.proofs.{Asked.case_failed, Common.desk_view}
use Rattle.case_core.specs.declared.events.Event.TheVariants.{Start}
use Rattle.adept_server.proofs.servers.Server.start.Goals as goal

pub returns-in_err-copy-clause-called : goal.returns-in_err-copy-clause-called
returns-in_err-copy-clause-called g c = case_failed (Start c.args.node c.args.desk.now.number c.args.roles.now) c.args.id (desk_view c.args.desk.now) c.from_residual.result c.from_residual.ensures.1 c.requires.desk.desk c.requires.there

use Rattle.adept_server.proofs.{Asked.case_failed, Common.desk_view}
use Rattle.case_core.specs.declared.events.Event.TheVariants.{End}
use Rattle.adept_server.proofs.servers.Server.end.Goals as goal

pub returns-in_err-duplicate-clause-called : goal.returns-in_err-duplicate-clause-called
returns-in_err-duplicate-clause-called g c = case_failed (End c.args.node c.args.desk.now.number c.args.choice c.args.writes.now) c.args.id (desk_view c.args.desk.now) c.from_residual.result c.from_residual.ensures.1 c.requires.desk.desk c.requires.there

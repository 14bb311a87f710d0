use Rattle.adept_server.proofs.{Common.{arith, desk_view}, Asked.all_move}
use Rattle.adept_server.proofs.servers.Server.migrate_all.Goals as goal

pub returns-clause-called : goal.returns-clause-called
returns-clause-called g c =
    all_move c.args.type_no 4294967295 (desk_view c.args.desk.now) (desk_view c.migrate_first.new.desk) _ c.requires.desk.desk (omega arith) c.migrate_first.ensures.called

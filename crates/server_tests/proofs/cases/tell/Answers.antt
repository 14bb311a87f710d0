use Rattle.std.proofs.Crossing.{crosses}
use denote.Param.Send.{sendable}
use Rattle.adept_server.proofs.Sent.{case-send, case-sync, event-send, event-sync}
use Rattle.server_tests.proofs.cases.tell.Goals as goal

pub call-requires-send-M : goal.call-requires-send-M
call-requires-send-M g c κs = search (case-send, sendable, crosses) depth 30

pub call-requires-send-M-Event : goal.call-requires-send-M-Event
call-requires-send-M-Event g c κs = search (event-send, sendable, crosses) depth 30

pub call-requires-sync-M : goal.call-requires-sync-M
call-requires-sync-M g c κs = search (case-sync, sendable, crosses) depth 30

pub call-requires-sync-M-Event : goal.call-requires-sync-M-Event
call-requires-sync-M-Event g c κs = search (event-sync, sendable, crosses) depth 30

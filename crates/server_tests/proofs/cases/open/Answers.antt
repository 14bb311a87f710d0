use Rattle.std.proofs.Crossing.{crosses}
use denote.Param.Send.{sendable}
use Rattle.adept_server.proofs.Sent.{case-send, case-sync, event-send, event-sync}
use Rattle.server_tests.proofs.cases.open.Goals as goal

pub new-requires-send-M : goal.new-requires-send-M
new-requires-send-M c κs = search (case-send, sendable, crosses) depth 30

pub new-requires-send-M-Event : goal.new-requires-send-M-Event
new-requires-send-M-Event c κs = search (event-send, sendable, crosses) depth 30

pub new-requires-sync-M : goal.new-requires-sync-M
new-requires-sync-M c κs = search (case-sync, sendable, crosses) depth 30

pub new-requires-sync-M-Event : goal.new-requires-sync-M-Event
new-requires-sync-M-Event c κs = search (event-sync, sendable, crosses) depth 30

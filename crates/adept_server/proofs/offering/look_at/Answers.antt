use Rattle.adept_server.proofs.{Common.crosses, Sent.{case-send, case-sync, event-send, event-sync}}
use denote.Param.Send.{sendable}
use Rattle.adept_server.proofs.offering.look_at.Goals as goal

pub look-requires-send-M : goal.look-requires-send-M
look-requires-send-M g c κs = search (case-send, sendable, crosses) depth 30

pub look-requires-send-M-Event : goal.look-requires-send-M-Event
look-requires-send-M-Event g c κs = search (event-send, sendable, crosses) depth 30

pub look-requires-sync-M : goal.look-requires-sync-M
look-requires-sync-M g c κs = search (case-sync, sendable, crosses) depth 30

pub look-requires-sync-M-Event : goal.look-requires-sync-M-Event
look-requires-sync-M-Event g c κs = search (event-sync, sendable, crosses) depth 30

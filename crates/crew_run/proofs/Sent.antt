-- Workers may go to other threads, and what a server and a file are made of may be shared by threads.
use denote.Param.Send.{IsSend, IsSync, sendable}
use Rattle.crew_run.proofs.Common.{case-send, crosses, event-send, version-send, version-sync}
use Rattle.case_core.proofs.replies.Reply.TheSendSync as reply
use Rattle.crew_run.specs.contracts.workers.Worker as worker_type
use Rattle.file_model.specs.contracts.files.Line as line_type
use denote.RattleType.{RattleType}
use Rattle.turn_cell.specs.declared.machine.Machine.{Ghosts}
use Rattle.turn_cell.specs.contracts.journal.Closed as closed_type
use Rattle.turn_cell.specs.contracts.faults.CallFault as fault_type
use Rattle.turn_cell.proofs.pass.Pass.TheSendSync as pass
use Rattle.type_core.specs.contracts.kinds.Kind as kind_type
use Rattle.type_core.specs.contracts.replies.KindReply as kind_reply_type
use Rattle.type_core.specs.contracts.events.KindEvent as kind_event_type
use Rattle.wsm_schema.proofs.blocks.Block.TheLaws.TheKnot.{crosses as blocks_cross}
use Rattle.wsm_schema.specs.contracts.schemas.Schema as schema_type

schema-send : IsSend schema_type.the_row
schema-send = search (blocks_cross, sendable, crosses) depth 40 fits 5000

pub schema-sync : IsSync schema_type.the_row
schema-sync = search (blocks_cross, sendable, crosses) depth 40 fits 5000

pub kind_event-send : IsSend kind_event_type.the_row
kind_event-send = search (schema-send, sendable, crosses) depth 40 fits 5000

pub kind_event-sync : IsSync kind_event_type.the_row
kind_event-sync = search (schema-sync, sendable, crosses) depth 40 fits 5000

pub kind-send : IsSend kind_type.the_row
kind-send = search (version-send, sendable, crosses) depth 40 fits 5000

pub kind-sync : IsSync kind_type.the_row
kind-sync = search (version-sync, sendable, crosses) depth 40 fits 5000

pub kind_reply-send : IsSend kind_reply_type.the_row
kind_reply-send = search (version-send, sendable, crosses) depth 40 fits 5000

pub kind_reply-sync : IsSync kind_reply_type.the_row
kind_reply-sync = search (version-sync, sendable, crosses) depth 40 fits 5000

pub line-sync : IsSync line_type.the_row
line-sync = search (sendable, crosses) depth 40 fits 5000

pub closed-sync : (T A B C D : RattleType) (g : Ghosts T.Denot A.Denot B.Denot C.Denot D.Denot) → IsSync T → IsSync A → IsSync B → IsSync (closed_type.the_row T A B C D)
closed-sync T A B C D g t a b = search (sendable, crosses) depth 40 fits 5000

fault-send : IsSend fault_type.the_row
fault-send = search (sendable, crosses) depth 40 fits 5000

pub worker-send : IsSend worker_type.the_row
worker-send = search (fault-send, pass.the_send, case-send, event-send, reply.the_send, version-send, kind_event-send, sendable, crosses) depth 40 fits 5000

-- Files, what is owed, and closed cases may go from thread to thread.
use Rattle.case_audit.proofs.Common.{crosses}
use denote.Param.Send.{IsSend, IsSync, sendable}
use Rattle.wsm_schema.proofs.blocks.Block.TheLaws.TheKnot.{crosses as blocks_cross}
use Rattle.wsm_schema.proofs.flats.Flat.TheSendSync as flat
use Rattle.wsm_schema.proofs.ranks.Rank.TheSendSync as rank
use Rattle.case_audit.specs.contracts.sections.Section as section
use Rattle.case_core.specs.contracts.instances.Instance as case
use Rattle.case_core.specs.contracts.events.Event as event
use Rattle.case_core.specs.contracts.live.Live as live
use Rattle.case_core.proofs.replies.Reply.TheSendSync as reply
use Rattle.file_model.proofs.files.ActorDecl.TheSendSync as actor_decl
use Rattle.file_model.proofs.files.CaseDecl.TheSendSync as case_decl
use Rattle.file_model.proofs.files.Line.TheSendSync as line
use Rattle.file_model.specs.contracts.files.File as file
use Rattle.file_model.specs.contracts.files.Line as line_row
use Rattle.file_model.specs.contracts.files.TypeDecl as type_decl
use Rattle.script_run.specs.contracts.runs.ClosedCase as closed
use Rattle.wsm_trail.proofs.trails.Trail.TheSendSync as trail
use Rattle.wsm_trail.specs.contracts.trails.Trail as trail_type
use Rattle.wsm_trail.specs.declared.keeps.TrailKeep as keep
use Rattle.wsm_trail.specs.declared.reads.TrailReads as reads
use Rattle.wsm_schema.specs.contracts.schemas.Schema as schema
use Rattle.wsm_sound.specs.contracts.checked.Checked as checked
use Rattle.wsm_sound.specs.contracts.versions.Version as version

schema-send : IsSend schema.the_row
schema-send = search (blocks_cross, sendable, crosses) depth 40 fits 5000

schema-sync : IsSync schema.the_row
schema-sync = search (blocks_cross, sendable, crosses) depth 40 fits 5000

checked-send : IsSend checked.the_row
checked-send = search (schema-send, flat.the_send, rank.the_send, sendable, crosses) depth 40

checked-sync : IsSync checked.the_row
checked-sync = search (schema-sync, flat.the_sync, rank.the_sync, sendable, crosses) depth 40

version-send : IsSend version.the_row
version-send = search (checked-send, checked-sync, sendable, crosses) depth 40 fits 5000

pub version-sync : IsSync version.the_row
version-sync = search (checked-send, checked-sync, sendable, crosses) depth 40 fits 5000

live-send : IsSend live.the_row
live-send = search (version-send, checked-send, checked-sync, sendable, crosses) depth 40 fits 5000

case-send : (k : keep.Ghosts (trail_type.the_row).Denot) (r : reads.Ghosts (trail_type.the_row).Denot) → IsSend (case.the_row trail_type.the_row k r)
case-send k r = search (live-send, trail.the_send, sendable, crosses) depth 40 fits 5000

event-send : IsSend event.the_row
event-send = search (version-send, sendable, crosses) depth 40 fits 5000

closed-send : IsSend closed.the_row
closed-send = search (case-send, event-send, reply.the_send, sendable, crosses) depth 40 fits 5000

pub section-send : IsSend section.the_row
section-send = search (closed-send, sendable, crosses) depth 40 fits 5000

type-sync : IsSync type_decl.the_row
type-sync = search (schema-sync, sendable, crosses) depth 40 fits 5000

pub file-sync : IsSync file.the_row
file-sync = search (type-sync, actor_decl.the_sync, case_decl.the_sync, line.the_sync, sendable, crosses) depth 40 fits 5000

pub line-sync : IsSync line_row.the_row
line-sync = line.the_sync

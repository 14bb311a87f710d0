-- Versions may go from thread to thread.
use denote.Param.Send.{IsSend, IsSync, sendable}
use Rattle.adept_server.proofs.Common.{crosses}
use Rattle.wsm_schema.proofs.blocks.Block.TheLaws.TheKnot.{crosses as blocks_cross}
use Rattle.wsm_schema.proofs.flats.Flat.TheSendSync as flat
use Rattle.wsm_schema.proofs.ranks.Rank.TheSendSync as rank
use Rattle.case_core.specs.contracts.instances.Instance as case
use Rattle.case_core.specs.contracts.events.Event as event
use Rattle.case_core.specs.contracts.live.Live as live
use Rattle.wsm_trail.proofs.trails.Trail.TheSendSync as trail
use Rattle.wsm_trail.specs.contracts.trails.Trail as trail_type
use Rattle.wsm_trail.specs.declared.keeps.TrailKeep as keep
use Rattle.wsm_trail.specs.declared.reads.TrailReads as reads
use Rattle.wsm_schema.specs.contracts.schemas.Schema as schema
use Rattle.wsm_sound.specs.contracts.checked.Checked as checked
use Rattle.wsm_sound.specs.contracts.versions.Version as version

schema-send : IsSend schema.the_row
schema-send = search (blocks_cross, sendable, crosses) depth 40 fits 5000

schema-sync : IsSync schema.the_row
schema-sync = search (blocks_cross, sendable, crosses) depth 40 fits 5000

checked-send : IsSend checked.the_row
checked-send = search (schema-send, flat.the_send, rank.the_send, sendable, crosses) depth 40

checked-sync : IsSync checked.the_row
checked-sync = search (schema-sync, flat.the_sync, rank.the_sync, sendable, crosses) depth 40

pub version-send : IsSend version.the_row
version-send = search (checked-send, checked-sync, sendable, crosses) depth 40 fits 5000

pub version-sync : IsSync version.the_row
version-sync = search (checked-send, checked-sync, sendable, crosses) depth 40 fits 5000

-- so may cases and their events
live-send : IsSend live.the_row
live-send = search (version-send, checked-send, checked-sync, sendable, crosses) depth 40 fits 5000

live-sync : IsSync live.the_row
live-sync = search (version-sync, checked-send, checked-sync, sendable, crosses) depth 40 fits 5000

pub case-send : (k : keep.Ghosts (trail_type.the_row).Denot) (r : reads.Ghosts (trail_type.the_row).Denot) → IsSend (case.the_row trail_type.the_row k r)
case-send k r = search (live-send, trail.the_send, sendable, crosses) depth 40 fits 5000

pub case-sync : (k : keep.Ghosts (trail_type.the_row).Denot) (r : reads.Ghosts (trail_type.the_row).Denot) → IsSync (case.the_row trail_type.the_row k r)
case-sync k r = search (live-sync, trail.the_sync, sendable, crosses) depth 40 fits 5000

pub event-send : IsSend event.the_row
event-send = search (version-send, sendable, crosses) depth 40 fits 5000

pub event-sync : IsSync event.the_row
event-sync = search (version-sync, sendable, crosses) depth 40 fits 5000

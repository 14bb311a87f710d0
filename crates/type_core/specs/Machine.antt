-- The type machine: what each event does to a type, and what the type answers.
use Rattle.std.specs.Prelude.{ℕ, ◌-◌, ◌*◌, List, [], ◌∷◌, ◌++◌, length, slice_get, nat_lt, Option, Some, None, Result, Ok, Err, if◌then◌else◌, ◌==◌}
use Rattle.type_core.specs.{KindModel.KindModel, declared.events.KindEvent.KindEvent, declared.replies.KindReply.KindReply}
use Rattle.type_core.specs.declared.events.KindEvent.TheVariants as event
use Rattle.type_core.specs.declared.replies.KindReply.TheVariants as reply
use Rattle.wsm_ops.specs.declared.operations.Op.{Op}
use Rattle.wsm_schema.specs.Flat.{cards_of}
use Rattle.wsm_sound.specs.{VersionModel.VersionModel, Versions.{first_of, evolved}, declared.faults.Fault.Fault}

-- the last version, where there is one
abbrev pub newest_of : List VersionModel → Option VersionModel
newest_of versions = slice_get versions (length versions - 1)

-- the version with a number, where there is one
abbrev pub version_in : List VersionModel → ℕ → Option VersionModel
version_in versions number = if number == 0 then None else slice_get versions (number - 1)

-- the type with one more version
abbrev pub with_version : KindModel → VersionModel → KindModel
with_version k v = record { type_no = k.type_no; versions = k.versions ++ v ∷ [] }

-- what a new version, or the fault that stands in its place, makes of the type
abbrev pub defined_by : KindModel → Result VersionModel Fault → KindModel × KindReply
defined_by k (Ok v) = (with_version k v, reply.Defined)
defined_by k (Err f) = (k, reply.Unsound f)

abbrev pub installed_by : KindModel → Result VersionModel Fault → KindModel × KindReply
installed_by k (Ok v) = (with_version k v, reply.Installed v.number)
installed_by k (Err f) = (k, reply.Unsound f)

-- a type has at most 256 versions
abbrev pub install_on : KindModel → VersionModel → List Op → KindModel × KindReply
install_on k newest ops = if nat_lt 255 (length k.versions) then (k, reply.VersionLimit) else installed_by k (evolved newest ops)

abbrev pub event_on : KindModel → Option VersionModel → KindEvent → KindModel × KindReply
event_on k None (event.Define schema) = defined_by k (first_of k.type_no schema)
event_on k None (event.Install ops) = (k, reply.NoType)
event_on k None event.Newest = (k, reply.NoType)
event_on k (Some newest) (event.Define schema) = (k, reply.Already)
event_on k (Some newest) (event.Install ops) = install_on k newest ops
event_on k (Some newest) event.Newest = (k, reply.Is newest)

-- the state and the reply after an event
abbrev pub next_kind : KindModel → KindEvent → KindModel × KindReply
next_kind k e = event_on k (newest_of k.versions) e

abbrev pub kind_after : KindModel → KindEvent → KindModel
kind_after k e = (next_kind k e).0

abbrev pub kind_reply : KindModel → KindEvent → KindReply
kind_reply k e = (next_kind k e).1

-- by how much an event may age a machine that counts
abbrev pub weight : KindEvent → ℕ
weight (event.Define schema) = length (cards_of schema)
weight (event.Install ops) = 3 * length ops
weight event.Newest = 0

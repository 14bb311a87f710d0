-- A type that has a version keeps it, and tells of it.
use Rattle.std.proofs.{Common.{◌≡◌, ℕ, ◌+◌, ◌-◌, ◌<◌, ◌≤◌, ltb, Bool, true, false, List, [], ◌∷◌, ◌++◌, length, Option, Some, None, Result, Ok, Err, get_or, refl, ap, arith, if◌then◌else◌, length-append}, lemmas.Option.slice_get-get_or}
use Rattle.turn_cell.specs.{History.state_after, declared.journal.Entry.Entry}
use Rattle.type_core.specs.{KindModel.{KindModel, not_defined}, Machine.{newest_of, with_version, defined_by, installed_by, event_on, next_kind, kind_after, kind_reply}, declared.events.KindEvent.KindEvent}
use Rattle.type_core.specs.declared.events.KindEvent.TheVariants.{Define, Install, Newest}
use Rattle.type_core.specs.declared.replies.KindReply.TheVariants as reply
use Rattle.wsm_schema.specs.SchemaModel.{SchemaModel}
use Rattle.wsm_sound.proofs.NoFaults.{first_taken}
use Rattle.wsm_sound.specs.{Faults.fault_of, VersionModel.VersionModel, Versions.{first_of, first_version, evolved}, declared.faults.Fault.Fault}

-- no event takes a version away
pub one-more : (k : KindModel) (v : VersionModel) → length k.versions < length (with_version k v).versions
one-more k v = omega (arith, length-append k.versions (v ∷ []))

by-defined : (k : KindModel) (r : Result VersionModel Fault) → length k.versions ≤ length (defined_by k r).0.versions
by-defined k (Ok v) = let m = one-more k v in omega arith
by-defined k (Err f) = omega arith

by-installed : (k : KindModel) (full : Bool) (r : Result VersionModel Fault) → length k.versions ≤ length (if full then (k, reply.VersionLimit) else installed_by k r).0.versions
by-installed k true r = omega arith
by-installed k false (Ok v) = let m = one-more k v in omega arith
by-installed k false (Err f) = omega arith

pub by-event : (k : KindModel) (newest : Option VersionModel) (e : KindEvent) → length k.versions ≤ length (event_on k newest e).0.versions
by-event k None (Define schema) = by-defined k (first_of k.type_no schema)
by-event k None (Install ops) = omega arith
by-event k None Newest = omega arith
by-event k (Some v) (Define schema) = omega arith
by-event k (Some v) (Install ops) = by-installed k (ltb 255 (length k.versions)) (evolved v ops)
by-event k (Some v) Newest = omega arith

pub versions-kept : {M R W : Type 0} (k : KindModel) (es : List (Entry M KindEvent R W KindModel)) → length k.versions ≤ length (state_after kind_after k es).versions
versions-kept k [] = omega arith
versions-kept k (e ∷ es) = let one = by-event k (newest_of k.versions) e.event in let more = versions-kept (kind_after k e.event) es in omega arith

-- a type that has a version answers the newest
newest-there : (vs : List VersionModel) → 0 < length vs → (v : VersionModel) × (newest_of vs ≡ Some v)
newest-there [] some = absurd (omega arith)
newest-there (x ∷ xs) some = (get_or (x ∷ xs) (length (x ∷ xs) - 1) x, slice_get-get_or (x ∷ xs) (length (x ∷ xs) - 1) x (omega arith))

pub newest-told : (k : KindModel) → 0 < length k.versions → (v : VersionModel) × (kind_reply k Newest ≡ reply.Is v)
newest-told k some = let n = newest-there k.versions some in (n.0, ap (λ o. (event_on k o Newest).1) n.1)

-- a sound type is defined where it was not
pub sound-defined : (t : ℕ) (schema : SchemaModel) → fault_of schema ≡ None → next_kind (not_defined t) (Define schema) ≡ (with_version (not_defined t) (first_version t schema), reply.Defined)
sound-defined t schema sound = ap (defined_by (not_defined t)) (first_taken t schema sound)

-- A type that has told of a version has one.
use Rattle.adept_server.proofs.Common.{◌-◌, ◌<◌, ◌≡◌, arith, by-event, defined_by, Err, event_on, kind_after, kind_reply, KindEvent, KindModel, length, newest_of, None, Ok, one-more, Option, refl, Result, slice_get_within, Some}
use Rattle.adept_server.proofs.Common.{tells_version, true, VersionModel}
use Rattle.type_core.specs.declared.events.KindEvent.TheVariants.{Define, Install, Newest}
use Rattle.wsm_sound.specs.{Versions.first_of, declared.faults.Fault.Fault}

-- where the newest version is there, there are versions
has-newest : (k : KindModel) (v : VersionModel) → newest_of k.versions ≡ Some v → 0 < length k.versions
has-newest k v is = let within = slice_get_within k.versions (length k.versions - 1) v is in omega arith

told-defined : (k : KindModel) (r : Result VersionModel Fault) → tells_version (defined_by k r).1 ≡ true → 0 < length (defined_by k r).0.versions
told-defined k (Ok v) told = let m = one-more k v in omega arith
told-defined k (Err f) told = absurd (cc)

told-event : (k : KindModel) (newest : Option VersionModel) (e : KindEvent) → newest_of k.versions ≡ newest → tells_version (event_on k newest e).1 ≡ true → 0 < length (event_on k newest e).0.versions
told-event k None (Define schema) is told = told-defined k (first_of k.type_no schema) told
told-event k None (Install ops) is told = absurd (cc)
told-event k None Newest is told = absurd (cc)
told-event k (Some v) e is told = let some = has-newest k v is in let stay = by-event k (Some v) e in omega arith

-- behind a reply that tells of a version there is one
pub told-version : (k : KindModel) (e : KindEvent) → tells_version (kind_reply k e) ≡ true → 0 < length (kind_after k e).versions
told-version k e told = told-event k (newest_of k.versions) e refl told

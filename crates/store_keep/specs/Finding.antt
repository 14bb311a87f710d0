-- What is found of calls in an image.
use Rattle.std.specs.Prelude.{ℕ, ◌+◌, ◌≤◌, Bool, false, List, [], ◌∷◌, length, map, take, bytes_eq, Option, Some, None, if◌then◌else◌}
use Rattle.store_room.specs.Room.{payload_of}
use Rattle.store_disk.specs.{Image.{Frames, closed, damaged, frame}, Rest.EndsAt}
use Rattle.store_form.specs.{Payload.Bytes, declared.stored.Recorded.Recorded}
use Rattle.store_keep.specs.declared.finding.Found.{Found}
use Rattle.store_keep.specs.declared.finding.Found.TheVariants as found

-- the records compared with payloads, one after another, behind so many that are the same
abbrev pub finds : ℕ → List Bytes → Frames → Found
finds n ps (closed here) = found.Beginning n here
finds n ps (damaged here) = found.Damaged here
finds n [] (frame here bytes others) = found.Differs (n + 1)
finds n (p ∷ ps) (frame here bytes others) = if bytes_eq p bytes then finds (n + 1) ps others else found.Differs (n + 1)

abbrev pub is_call : Option Recorded → Bytes → Bool
is_call None bytes = false
is_call (Some r) bytes = bytes_eq (payload_of r) bytes

-- where it is a beginning, the image ends behind the payloads of so many calls
abbrev pub HoldsFound : List Recorded → List ℕ → Found → Type 0
HoldsFound calls image (found.Beginning count gate) = (count ≤ length calls) × EndsAt image (map payload_of (take count calls)) gate
HoldsFound calls image _ = Unit {0}

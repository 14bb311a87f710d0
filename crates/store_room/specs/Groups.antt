-- Groups in which many calls are stored.
use Rattle.std.specs.{Prelude.{◌≡◌, ◌⊎◌, ℕ, ◌+◌, ◌<◌, ◌≤◌, ◌^◌, min, nat_lt, List, [], ◌∷◌, length, map, take, if◌then◌else◌}, List.AllByRecursion}
use Rattle.store_disk.specs.{Image.all_framed, declared.group.TheConstants.MAX_GROUP}
use Rattle.store_form.specs.{Payload.Bytes, declared.stored.Recorded.Recorded}
use Rattle.store_room.specs.Room.{HasPayload, Overflows, payload_of}

-- the payloads of the first so many calls, which find room: no more than a group may have, but one in any case, and no fewer
pub record IsFirstGroup (limit gate : ℕ) (calls : List Recorded) (count : ℕ) (group : List Bytes) : Type 0 where
  pub some : 0 < count
  pub within : count ≤ length calls
  pub are : group ≡ map payload_of (take count calls)
  pub payloads : AllByRecursion HasPayload (take count calls)
  pub short : gate + length (all_framed group) < 2 ^ 30
  pub fits : Overflows limit gate (take count calls) → ⊥
  pub cut : (count ≡ 1) ⊎ (length (all_framed group) ≤ MAX_GROUP)
  pub whole : (count ≡ length calls) ⊎ (MAX_GROUP < length (all_framed (map payload_of (take (count + 1) calls))))

-- where the group that begins at an index ends at the latest: the first of ends that is behind it, no further than so far
abbrev pub end_behind : ℕ → ℕ → List ℕ → ℕ
end_behind index last [] = last
end_behind index last (end ∷ ends) = if nat_lt index end then min end last else end_behind index last ends

-- A store as contracts see it, and what it holds.
use Rattle.std.specs.Prelude.{◌≡◌, ℕ, ◌<◌, ◌≤◌, ◌^◌, Bool, true, List, [], ◌∷◌, map, take}
use Rattle.script_run.specs.{Oldest.oldest, declared.runs.Run.Run}
use Rattle.store_disk.specs.{Disk.LeavesOnly, Image.HasList, Rest.{HasNoneOrAll, IsAtRest}}
use Rattle.store_form.specs.{Stored.HasNoVersion, declared.stored.Recorded.Recorded}
use Rattle.store_room.specs.Room.{HasPayload, payload_of}
use Rattle.case_store.specs.Folding.{called, folded, has, starts_of}

-- the types and cases of a store, and where the cases of each type begin
pub record Held : Type 0 where
  pub starts : List ℕ
  pub run : Run

-- a disk, the place of its last gate, what its records make, and whether a step failed on the disk
pub record StoreState (D : Type 0) : Type 0 where
  pub disk : D
  pub gate : ℕ
  pub held : Held
  pub is_broken : Bool

-- how many cases each type of a store has, and the records so far
pub record Past : Type 0 where
  pub counts : List ℕ
  pub records : List Recorded

-- each record names what is there when it comes, and has a payload
abbrev pub AreCalls : List ℕ → Run → List Recorded → Type 0
AreCalls starts run [] = Unit {0}
AreCalls starts run (r ∷ rs) = (has starts run r.event ≡ true) × HasPayload r × AreCalls starts (called starts run r) rs

-- each call names what is there when it comes, and has no version in it
abbrev pub AreKnown : List ℕ → Run → List Recorded → Type 0
AreKnown starts run [] = Unit {0}
AreKnown starts run (r ∷ rs) = (has starts run r.event ≡ true) × HasNoVersion r.event × AreKnown starts (called starts run r) rs

-- the run of these records, on types with so many cases
pub record IsFoldOf (counts : List ℕ) (held : Held) (records : List Recorded) : Type 0 where
  pub starts : held.starts ≡ starts_of counts
  pub run : held.run ≡ folded counts records
  pub calls : AreCalls (starts_of counts) (folded counts []) records

-- the store holds these records and no others, on its disk and as their run
pub record IsStore {D : Type 0} (content : D → List ℕ) (may_leave : D → List ℕ → Type 0) (counts : List ℕ) (store : StoreState D) (records : List Recorded) : Type 0 where
  pub rest : IsAtRest content may_leave store.disk (map payload_of records) store.gate
  pub fold : IsFoldOf counts store.held records
  pub short : store.gate < 2 ^ 30
  -- no case is older than there are bytes
  pub young : oldest store.held.run.cases ≤ store.gate

-- what an opened store holds is what the disk held
abbrev pub Opens : {D : Type 0} → (D → List ℕ) → (D → List ℕ → Type 0) → List ℕ → List ℕ → StoreState D → Type 0
Opens content may_leave counts image store = (records : List Recorded) × HasList (map payload_of records) image × IsStore content may_leave counts store records

-- A stop at any moment leaves these records, or these and the first so many of the calls.
abbrev pub AddsFirst : {D : Type 0} → (D → ℕ) → (D → ℕ → List ℕ → Type 0) → List Recorded → List Recorded → D → D → Type 0
AddsFirst moment left_since records calls old new = (n : ℕ) × LeavesOnly moment left_since old new (HasNoneOrAll (map payload_of records) (map payload_of (take n calls)))

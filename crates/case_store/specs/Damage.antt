-- Where an image is damaged, and what a refusal to open says.
use Rattle.std.specs.Prelude.{◌≡◌, ◌⊎◌, ℕ, ◌<◌, ◌≤◌, ◌^◌, Bool, false, true, List, length, Result, Ok, Err}
use Rattle.script_run.specs.declared.runs.Run.{Run}
use Rattle.store_disk.specs.Image.{Frames, closed, damaged, frame, frames}
use Rattle.store_form.specs.{Payload.{Bytes, IsPayloadOf, IsPayloadOfNone}, declared.stored.Recorded.Recorded}
use Rattle.case_store.specs.{Folding.{called, fresh, has, starts_of}, Standing.{Held, StoreState}, declared.refusals.ImageFault.ImageFault, declared.refusals.OpenRefusal.OpenRefusal}
use Rattle.case_store.specs.declared.refusals.ImageFault.TheVariants as fault
use Rattle.case_store.specs.declared.refusals.OpenRefusal.TheVariants as refusal

-- bytes that are the payload of none, or of a call that names what is not there
abbrev pub IsRefused : List ℕ → Run → Bytes → Type 0
IsRefused starts run bytes = IsPayloadOfNone bytes ⊎ ((r : Recorded) × IsPayloadOf bytes r.caller r.event × (has starts run r.event ≡ false))

-- bytes that are the payload of a call that names what is there
abbrev pub IsTaken : List ℕ → Run → Bytes → Recorded → Type 0
IsTaken starts run bytes r = IsPayloadOf bytes r.caller r.event × (has starts run r.event ≡ true)

-- what is made of a payload, where it is taken in and where it is refused
abbrev pub TakesIn : Held → Bytes → Bool → Held → Type 0
TakesIn old bytes true new = (r : Recorded) × IsTaken old.starts old.run bytes r × (new ≡ record old { run = called old.starts old.run r })
TakesIn old bytes false new = IsRefused old.starts old.run bytes × (new ≡ old)

-- the first record from a run on that is not taken, or the place where the frames are damaged
abbrev pub IsDamagedFrom : List ℕ → Run → Frames → ℕ → Type 0
IsDamagedFrom starts run (closed here) place = ⊥
IsDamagedFrom starts run (damaged here) place = here ≡ place
IsDamagedFrom starts run (frame here bytes others) place =
    (IsRefused starts run bytes × (here ≡ place)) ⊎ ((r : Recorded) × IsTaken starts run bytes r × IsDamagedFrom starts (called starts run r) others place)

abbrev pub IsDamaged : List ℕ → List ℕ → ℕ → Type 0
IsDamaged counts image place = IsDamagedFrom (starts_of counts) (fresh counts) (frames image) place

-- what a fault says of an image that was read
abbrev pub TellsDamage : List ℕ → List ℕ → ImageFault → Type 0
TellsDamage counts image (fault.Damaged place) = IsDamaged counts image place
TellsDamage counts image fault.NoMemory = Unit {0}
TellsDamage counts image fault.TooLong = ⊥
TellsDamage counts image fault.Disk = ⊥

-- what a refusal says of the image
abbrev pub Says : {D : Type 0} → List ℕ → List ℕ → OpenRefusal D → Type 0
Says counts image (refusal.TooLong disk) = 2 ^ 30 < length image
Says counts image (refusal.Damaged disk place) = (length image ≤ 2 ^ 30) × IsDamaged counts image place
Says counts image (refusal.NoMemory disk) = length image ≤ 2 ^ 30
Says counts image (refusal.Disk disk) = Unit {0}

-- the disk that is given back, in a store or in a refusal
abbrev pub disk_refused : {D : Type 0} → OpenRefusal D → D
disk_refused (refusal.TooLong disk) = disk
disk_refused (refusal.Damaged disk place) = disk
disk_refused (refusal.NoMemory disk) = disk
disk_refused (refusal.Disk disk) = disk

abbrev pub disk_of : {D : Type 0} → Result (StoreState D) (OpenRefusal D) → D
disk_of (Ok store) = store.disk
disk_of (Err e) = disk_refused e

-- Why the calls of a file are not all stored, and what that says of the disk.
use Rattle.std.specs.Prelude.{◌≡◌, ◌⊎◌, ℕ, ◌<◌, ◌^◌, List, length, map, drop}
use Rattle.adept_io.specs.declared.reading.ReadRefusal.{ReadRefusal}
use Rattle.adept_io.specs.declared.reading.ReadRefusal.TheVariants as read
use Rattle.store_disk.specs.Image.{all_framed, frames}
use Rattle.store_form.specs.declared.stored.Recorded.{Recorded}
use Rattle.store_keep.specs.{Finding.finds, Keeping.held, declared.faults.KeepFault.KeepFault}
use Rattle.store_keep.specs.declared.faults.KeepFault.TheVariants as fault
use Rattle.store_keep.specs.declared.finding.Found.TheVariants as found
use Rattle.store_room.specs.{Room.{Overflows, payload_of}, declared.faults.RoomFault.RoomFault}
use Rattle.store_room.specs.declared.faults.RoomFault.TheVariants as room

abbrev pub unopened : ReadRefusal → KeepFault
unopened read.Failed = fault.Disk
unopened read.TooLong = fault.TooLong
unopened read.NoMemory = fault.NoMemory

abbrev pub no_room : RoomFault → KeepFault
no_room room.Full = fault.Full
no_room room.NoMemory = fault.NoMemory

abbrev pub IsAddFault : KeepFault → Type 0
IsAddFault e = (e ≡ fault.Full) ⊎ (e ≡ fault.NoMemory) ⊎ (e ≡ fault.Disk)

-- a refusal of a disk that holds something else
abbrev pub IsRefusal : KeepFault → Type 0
IsRefusal fault.TooLong = Unit {0}
IsRefusal (fault.Damaged place) = Unit {0}
IsRefusal (fault.Differs number) = Unit {0}
IsRefusal _ = ⊥

-- one that comes of what its records are
abbrev pub IsJudgement : KeepFault → Type 0
IsJudgement (fault.Damaged place) = Unit {0}
IsJudgement (fault.Differs number) = Unit {0}
IsJudgement _ = ⊥

abbrev pub IsKeepFault : KeepFault → Type 0
IsKeepFault fault.Unwritten = ⊥
IsKeepFault _ = Unit {0}

-- what a fault says of the image that was there, and of the limit up to which it may grow
abbrev pub Tells : ℕ → List Recorded → List ℕ → KeepFault → Type 0
Tells limit calls image (fault.Damaged place) = finds 0 (map payload_of calls) (frames image) ≡ found.Damaged place
Tells limit calls image (fault.Differs number) = finds 0 (map payload_of calls) (frames image) ≡ found.Differs number
Tells limit calls image fault.TooLong = 2 ^ 30 < length image
Tells limit calls image fault.Full = Overflows limit (length (all_framed (held image))) (drop (length (held image)) calls)
Tells limit calls image _ = Unit {0}

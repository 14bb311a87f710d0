-- Which payloads an image holds, and how they stand to those of all calls.
use Rattle.std.specs.Prelude.{◌≡◌, ℕ, List, ◌++◌}
use Rattle.store_disk.specs.{Disk.LeavesOnly, Image.{frames, payloads_in, HasList}, Rest.IsAtRest}
use Rattle.store_form.specs.Payload.{Bytes}

-- the payloads of the records of an image
abbrev pub held : List ℕ → List Bytes
held image = payloads_in (frames image)

abbrev pub Begins : List Bytes → List Bytes → Type 0
Begins ps all = (rest : List Bytes) × (ps ++ rest ≡ all)

-- an image is whole, and holds a beginning of all payloads
pub record IsBegun (all : List Bytes) (image : List ℕ) : Type 0 where
  pub whole : HasList (held image) image
  pub begins : Begins (held image) all

-- it holds one that goes on from these
pub record HoldsBeginning (all least : List Bytes) (image : List ℕ) : Type 0 where
  pub begun : IsBegun all image
  pub no_less : Begins least (held image)

-- A stop at any moment leaves a beginning of all payloads that goes on from what the disk held, where that is one.
abbrev pub KeepsBeginning : {D : Type 0} → (D → List ℕ) → (D → ℕ) → (D → ℕ → List ℕ → Type 0) → List Bytes → D → D → Type 0
KeepsBeginning content moment left_since all old new = IsBegun all (content old) → LeavesOnly moment left_since old new (HoldsBeginning all (held (content old)))

-- A stop at any moment leaves what the disk held, and behind it a beginning of these.
abbrev pub AddsOnly : {D : Type 0} → (D → List ℕ) → (D → ℕ) → (D → ℕ → List ℕ → Type 0) → List Bytes → D → D → Type 0
AddsOnly content moment left_since ps old new = LeavesOnly moment left_since old new (HoldsBeginning (held (content old) ++ ps) (held (content old)))

-- nothing is pending, and the disk holds just these payloads
abbrev pub IsStored : {D : Type 0} → (D → List ℕ) → (D → List ℕ → Type 0) → D → List Bytes → Type 0
IsStored content may_leave disk ps = (place : ℕ) × IsAtRest content may_leave disk ps place

-- what reads give is as before, and no stop leaves more than before
pub record IsLeft {D : Type 0} (content : D → List ℕ) (may_leave : D → List ℕ → Type 0) (old new : D) : Type 0 where
  pub same : content new ≡ content old
  pub images : (c : List ℕ) → may_leave new c → may_leave old c

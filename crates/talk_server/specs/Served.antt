-- A server from its opening to its end.
use Rattle.std.specs.{Prelude.{◌≡◌, ◌⊎◌, ℕ, ◌<◌, ◌^◌, List, [], ◌∷◌, Option, Some, IsSomeAnd, Result, Ok, Err}, Io.KnownBytes.Appends}
use Rattle.adept_io.specs.Written.{AppendsPrefix}
use Rattle.file_words.specs.Lines.{Bytes}
use Rattle.store_disk.specs.{Disk.{LeavesOnly, Only}, Image.HasList, Opening.HoldsAsBefore, Rest.IsAtRest}
use Rattle.talk_rules.specs.Units.{UnitRules, header}
use Rattle.talk_server.specs.{Opening.{Opened, opening, payloads_of, unbegun}, Talks.server_rules, declared.faults.ServeFault.ServeFault}
use Rattle.talk_server.specs.declared.faults.ServeFault.TheVariants as fault
use Rattle.turn_loop.specs.{Serving.{Acknowledged, Ended, HoldsBeginningOf}, Talk.said, declared.faults.TalkFault.TalkFault}
use Rattle.turn_loop.specs.declared.faults.TalkFault.TheVariants as cut

-- ---- the opening

-- a disk was opened: it is at rest with the header and units, and the state is theirs
pub record IsOpened {H D : Type 0} (rules : UnitRules) (keeps : H → List Bytes → Type 0) (content : D → List ℕ) (may_leave : D → List ℕ → Type 0) (bytes : List ℕ) (disk : D) (state : H) (gate : ℕ) : Type 0 where
  pub units : List Bytes
  pub told : payloads_of (opening rules bytes) ≡ Some (header ∷ units)
  pub kept : keeps state units
  pub rest : IsAtRest content may_leave disk (header ∷ units) gate
  pub short : gate < 2 ^ 30

-- a stop while a disk is opened leaves the records from before, or the header alone where there was none
abbrev pub IsOpening : (before : List ℕ → Type 0) → Opened → List ℕ → Type 0
IsOpening before o image = HoldsAsBefore before image ⊎ ((o ≡ unbegun) × HasList (header ∷ []) image)

-- a disk that is refused is left as it is
pub record IsLeft {D : Type 0} (content : D → List ℕ) (may_leave : D → List ℕ → Type 0) (old new : D) : Type 0 where
  pub same : content new ≡ content old
  pub only : Only (content old) (may_leave new)

-- why a disk was not opened: it cannot be read, it is none of a server, it failed while the header was put there, or for want
-- of memory
abbrev pub IsOpeningFault : ServeFault → Type 0
IsOpeningFault (fault.Talk cut.NoMemory) = Unit {0}
IsOpeningFault (fault.Talk cut.Disk) = Unit {0}
IsOpeningFault (fault.Talk why) = ⊥
IsOpeningFault e = Unit {0}

-- the store is refused, or cannot be read
abbrev pub IsStoreFault : ServeFault → Type 0
IsStoreFault (fault.Talk why) = ⊥
IsStoreFault e = Unit {0}

-- the disk has failed, while it is opened or behind
abbrev pub IsDiskFault : ServeFault → Type 0
IsDiskFault fault.Unopened = Unit {0}
IsDiskFault (fault.Talk cut.Disk) = Unit {0}
IsDiskFault e = ⊥

-- ---- the talk

-- nothing was read, and nothing was written
abbrev pub Untouched : (from to before after : Option Bytes) → Type 0
Untouched from to before after = (to ≡ from) × (after ≡ before)

-- the disk was opened, with these payloads, and the talk over it has ended
pub record Talked {D : Type 0} (rules : UnitRules) (content : D → List ℕ) (may_leave : D → List ℕ → Type 0) (moment : D → ℕ) (left_since : D → ℕ → List ℕ → Type 0) (old new : D) (from to before after : Option Bytes) (ps : List Bytes) (end : Result (Unit {0}) TalkFault) : Type 0 where
  pub disk : D
  pub gate : ℕ
  pub rest : IsAtRest content may_leave disk ps gate
  pub opens : LeavesOnly moment left_since old disk (IsOpening (may_leave old) (opening rules (content old)))
  pub ended : Ended (server_rules rules) may_leave moment left_since disk new from to before after ps end

-- how a server ends
abbrev pub Ends : {D : Type 0} → (rules : UnitRules) → (content : D → List ℕ) → (may_leave : D → List ℕ → Type 0) → (moment : D → ℕ) → (left_since : D → ℕ → List ℕ → Type 0) → (old new : D) → (from to before after : Option Bytes) → Result (Unit {0}) ServeFault → Type 0
Ends rules content may_leave moment left_since old new from to before after (Ok done) =
    IsSomeAnd (payloads_of (opening rules (content old))) (λ ps. Talked rules content may_leave moment left_since old new from to before after ps (Ok done))
Ends rules content may_leave moment left_since old new from to before after (Err (fault.Talk why)) =
    (IsOpeningFault (fault.Talk why) × Untouched from to before after)
    ⊎ IsSomeAnd (payloads_of (opening rules (content old))) (λ ps. Talked rules content may_leave moment left_since old new from to before after ps (Err why))
Ends rules content may_leave moment left_since old new from to before after (Err e) = Untouched from to before after

-- what was written is all that is said to a talk over the bytes of a disk, or a beginning of it
abbrev pub SaysAll : UnitRules → (bytes : List ℕ) → (before after : Option Bytes) → (talk : Bytes) → Type 0
SaysAll rules bytes before after talk = IsSomeAnd (payloads_of (opening rules bytes)) (λ ps. Appends before after (said (server_rules rules) ps talk))

abbrev pub SaysSome : UnitRules → (bytes : List ℕ) → (before after : Option Bytes) → (talk : Bytes) → Type 0
SaysSome rules bytes before after talk =
    (after ≡ before) ⊎ IsSomeAnd (payloads_of (opening rules bytes)) (λ ps. AppendsPrefix before after (said (server_rules rules) ps talk))

-- what was answered is on each image, behind the records from before
abbrev pub HasAnswered : UnitRules → (bytes : List ℕ) → (images : List ℕ → Type 0) → (before after : Option Bytes) → (talk : Bytes) → Type 0
HasAnswered rules bytes images before after talk = IsSomeAnd (payloads_of (opening rules bytes)) (λ ps. Acknowledged (server_rules rules) images before after ps talk)

abbrev pub HasAnyAnswered : UnitRules → (bytes : List ℕ) → (images : List ℕ → Type 0) → (before after : Option Bytes) → (talk : Bytes) → Type 0
HasAnyAnswered rules bytes images before after talk = (after ≡ before) ⊎ HasAnswered rules bytes images before after talk

-- a stop at any moment leaves what the opening may, or the records from before and a beginning of what the talk adds
abbrev pub IsOfServer : UnitRules → (before : List ℕ → Type 0) → (bytes : List ℕ) → (talk : Option Bytes) → List ℕ → Type 0
IsOfServer rules before bytes talk image =
    IsOpening before (opening rules bytes) image ⊎ IsSomeAnd (payloads_of (opening rules bytes)) (λ ps. HoldsBeginningOf (server_rules rules) ps talk image)

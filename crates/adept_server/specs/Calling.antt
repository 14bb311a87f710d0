-- What a call leaves of a desk: an entry more on each cell that it calls.
use Rattle.std.specs.Prelude.{◌≡◌, ℕ, ◌<◌, ◌≤◌, ◌⊎◌, Bool, true, false, List, [], ◌∷◌, ◌++◌, length, take, drop, Option, Some, None, Result, Ok, Err, OnOk, MatchResult, slice_get, slice_set, if◌then◌else◌}
use Rattle.adept_server.specs.Desks.{CasePass, DeskView}
use Rattle.case_core.specs.{Machine.{case_after, case_reply}, declared.events.Event.Event, declared.replies.Reply.Reply}
use Rattle.case_core.specs.declared.events.Event.TheVariants as event
use Rattle.turn_cell.specs.{Passes.{PassView, Sees, Calls}, declared.faults.CallFault.CallFault, declared.limits.TheConstants.MAX_ENTRIES}
use Rattle.turn_cell.specs.declared.faults.CallFault.TheVariants as fault
use Rattle.type_core.specs.{Machine.{kind_after, kind_reply}, declared.events.KindEvent.KindEvent, declared.replies.KindReply.KindReply}
use Rattle.type_core.specs.declared.events.KindEvent.TheVariants as kind_event
use Rattle.type_core.specs.declared.replies.KindReply.TheVariants as kind_reply
use Rattle.wsm_sound.specs.{VersionModel.VersionModel, declared.versions.CaseId.CaseId}

-- the journal of a cell has room in what its pass has seen
abbrev pub HasRoom : {M E R W S : Type 0} → Option (PassView M E R W S) → Type 0
HasRoom None = ⊥
HasRoom (Some p) = length p.seen < MAX_ENTRIES

module _ {M E R W S : Type 0} (after : S → E → S) (reply : S → E → R) where
  -- What a call with that answer leaves of a pass. Where the answer is a fault, no call was made, and the pass may have seen more.
  -- Want of memory is told where the journal has room, or before the cell was asked.
  pub record IsAnswered (event : E) (v : PassView M E R W S) (answer : Result R CallFault) (w : PassView M E R W S) : Type 0 where
    pub cell : w.cell ≡ v.cell
    pub opening : w.opening ≡ v.opening
    pub number : w.number ≡ v.number
    pub made : w.made ≡ v.made
    pub taken : w.taken ≡ v.taken
    pub past : w.past ≡ v.past
    pub outcome : MatchResult answer (λ r. Calls after reply event v r w) (λ _. Sees after reply v w)
    pub room : OnOk answer (length w.seen ≤ MAX_ENTRIES)
    pub full : answer ≡ Err fault.Full → length w.seen ≡ MAX_ENTRIES
    pub memory : answer ≡ Err fault.NoMemory → (w ≡ v) ⊎ (length w.seen < MAX_ENTRIES)

  -- one pass of a list makes a call with that answer, and no other changes
  pub record CallsOne (event : E) (index : ℕ) (answer : Result R CallFault) (vs ws : List (PassView M E R W S)) : Type 0 where
    pub before : PassView M E R W S
    pub behind : PassView M E R W S
    pub there : slice_get vs index ≡ Some before
    pub called : IsAnswered event before answer behind
    pub others : ws ≡ slice_set vs index behind

  -- Each pass of a list makes one call with that event, with the answer at its place. Each cell was asked, so want of memory is told
  -- where the journal has room, and nowhere else.
  abbrev pub CallEach : E → List (PassView M E R W S) → List (Result R CallFault) → List (PassView M E R W S) → Type 0
  CallEach event [] [] [] = Unit {0}
  CallEach event (v ∷ vs) (a ∷ answers) (w ∷ ws) = IsAnswered event v a w × (a ≡ Err fault.NoMemory → length w.seen < MAX_ENTRIES) × CallEach event vs answers ws
  CallEach event _ _ _ = ⊥

-- a reply after which the desk knows that the type has a version
abbrev pub tells_version : KindReply → Bool
tells_version kind_reply.Defined = true
tells_version (kind_reply.Installed number) = true
tells_version (kind_reply.Is version) = true
tells_version kind_reply.Already = true
tells_version kind_reply.NoType = false
tells_version kind_reply.VersionLimit = false
tells_version (kind_reply.Unsound fault) = false

-- the reply of a type that is asked for its newest version and has one
abbrev pub tells_newest : KindReply → Bool
tells_newest (kind_reply.Is version) = true
tells_newest _ = false

abbrev pub answer_tells : Result KindReply CallFault → Bool
answer_tells (Ok r) = tells_version r
answer_tells (Err f) = false

abbrev pub flags_after : ℕ → Result KindReply CallFault → List Bool → List Bool
flags_after t answer flags = if answer_tells answer then slice_set flags t true else flags

-- one call of a type
pub record CallsKind (e : KindEvent) (t : ℕ) (answer : Result KindReply CallFault) (v w : DeskView) : Type 0 where
  pub called : CallsOne kind_after kind_reply e t answer v.kinds w.kinds
  pub others : w ≡ record v { kinds = w.kinds; defined = flags_after t answer v.defined }

-- one call of a case
pub record CallsCase (e : Event) (id : CaseId) (answer : Result Reply CallFault) (v w : DeskView) : Type 0 where
  pub row : List CasePass
  pub row_behind : List CasePass
  pub there : slice_get v.cases id.type_no ≡ Some row
  pub called : CallsOne case_after case_reply e id.place answer row row_behind
  pub others : w ≡ record v { cases = slice_set v.cases id.type_no row_behind }

-- A case is created: its type is asked for the newest version, and the case is created on it.
pub data Creates (id : CaseId) (answer : Result Reply CallFault) (v w : DeskView) : Type 0 where
  unasked : (f : CallFault) → answer ≡ Err f → CallsKind kind_event.Newest id.type_no (Err f) v w → Creates id answer v w
  asked : (version : VersionModel) (between : DeskView) → CallsKind kind_event.Newest id.type_no (Ok (kind_reply.Is version)) v between
      → CallsCase (event.Create version) id answer between w → Creates id answer v w

-- the first so many cases of a type are told an event
pub record CallsCases (e : Event) (t many : ℕ) (answers : List (Result Reply CallFault)) (v w : DeskView) : Type 0 where
  pub row : List CasePass
  pub front : List CasePass
  pub there : slice_get v.cases t ≡ Some row
  pub called : CallEach case_after case_reply e (take many row) answers front
  pub others : w ≡ record v { cases = slice_set v.cases t (front ++ drop many row) }

-- The first so many cases of a type are to move to its newest version: the type is asked for it, and each of them is told.
pub data Migrates (t many : ℕ) (answer : Result (List (Result Reply CallFault)) CallFault) (v w : DeskView) : Type 0 where
  unasked : (f : CallFault) → answer ≡ Err f → CallsKind kind_event.Newest t (Err f) v w → Migrates t many answer v w
  asked : (version : VersionModel) → answer ≡ Err fault.NoMemory → CallsKind kind_event.Newest t (Ok (kind_reply.Is version)) v w → Migrates t many answer v w
  told : (version : VersionModel) (between : DeskView) (answers : List (Result Reply CallFault)) → answer ≡ Ok answers
      → CallsKind kind_event.Newest t (Ok (kind_reply.Is version)) v between → CallsCases (event.Migrate version) t many answers between w → Migrates t many answer v w

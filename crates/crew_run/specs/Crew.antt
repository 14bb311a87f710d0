-- A crew: the first desk of a server, and a desk for each actor of a file.
use Rattle.std.specs.Prelude.{◌≡◌, ℕ, suc, ◌+◌, ◌≤◌, ◌<◌, List, [], ◌∷◌, length, map, Some, slice_get}
use mathlib.Core.List.{IsPrefix}
use Rattle.adept_server.specs.{Desks.{CasePass, DeskView, IsDefinedFor, IsDesk, IsDeskOf, KindPass, desk_view}, Noting.AreLevelDesks, Opening.SeesMore, declared.call_flags.CallFlags.CallFlags, declared.desks.Desk.Desk}
use Rattle.adept_server.specs.declared.servers.Server.{Server}
use Rattle.crew_run.specs.{CaseCounts.AreCounts, Desks.{DeskHeard, DeskSame, IsIdle, kind_at, case_at}, declared.workers.Worker.Worker}
use Rattle.file_model.specs.{declared.files.File.File, declared.files.TypeDecl.TypeDecl}
use Rattle.script_run.specs.{Entries.KindEntry, Serial.program}
use Rattle.turn_cell.specs.{History.entry, declared.limits.TheConstants.MAX_ENTRIES}
use Rattle.type_core.specs.declared.events.KindEvent.TheVariants as event
use Rattle.type_core.specs.declared.replies.KindReply.{KindReply}
use Rattle.wsm_sound.specs.declared.versions.CaseId.{CaseId}

-- a desk with the file's types and cases
pub record HasShape (f : File) (v : DeskView) : Type 0 where
  pub types : length v.kinds ≡ length f.types
  pub counted : AreCounts f (map length v.cases)

-- a desk has seen a version of each of the first so many types
abbrev pub KnowsTypes : ℕ → DeskView → Type 0
KnowsTypes many v = (t : ℕ) → t < many → IsDefinedFor v t

-- a cell of which a desk has seen as many entries as a journal may have
pub data SeesMany (v : DeskView) : Type 0 where
  of_kind : (t : ℕ) (p : KindPass) → kind_at t v ≡ Some p → MAX_ENTRIES ≤ length p.seen → SeesMany v
  of_case : (c : CaseId) (p : CasePass) → case_at c v ≡ Some p → MAX_ENTRIES ≤ length p.seen → SeesMany v

-- a worker's desk, numbered by its place, with which no call was made
abbrev pub IsHiredAt : Server → ℕ → Worker → Type 0
IsHiredAt s i w = IsDeskOf s w.desk × ((desk_view w.desk).number ≡ suc i) × IsIdle (desk_view w.desk)

-- the first desk of a new server has hired a crew
pub record AreHired (s : Server) (first : Desk) (crew : List Worker) : Type 0 where
  pub desk : IsDeskOf s first
  pub number : (desk_view first).number ≡ 0
  pub made : (desk_view first).made ≡ length crew + 1
  pub taken : (desk_view first).taken ≡ 0
  pub idle : IsIdle (desk_view first)
  pub each : (i : ℕ) (w : Worker) → slice_get crew i ≡ Some w → IsHiredAt s i w

-- What the program has called of a type once so many types are defined: it was told to define it, if it is one of those.
pub record IsDefinedUpTo (types : List TypeDecl) (done t : ℕ) (own : List KindEntry) : Type 0 where
  pub few : length own ≤ 1
  pub told : t < done → (d : TypeDecl) → slice_get types t ≡ Some d → (answer : KindReply) × (own ≡ entry program (event.Define d.schema) answer ∷ [])
  pub untold : done ≤ t → own ≡ []

-- so many types were defined with an idle desk
pub record Defines (types : List TypeDecl) (done : ℕ) (v w : DeskView) : Type 0 where
  pub number : w.number ≡ v.number
  pub made : w.made ≡ v.made
  pub taken : w.taken ≡ v.taken
  pub cases : w.cases ≡ v.cases
  pub many : length w.kinds ≡ length v.kinds
  pub each : (t : ℕ) (q : KindPass) → kind_at t w ≡ Some q → IsDefinedUpTo types done t q.own_calls × (q.past ≡ [])

-- a worker has met with the first desk, which then goes on to meet the others
pub record HasMet (s : Server) (called : CallFlags) (first : DeskView) (w x : Worker) : Type 0 where
  pub fault : x.fault ≡ w.fault
  pub desk : IsDeskOf s x.desk
  pub heard : DeskHeard (desk_view w.desk) (desk_view x.desk)
  pub seen : SeesMore (desk_view x.desk) first
  pub level : AreLevelDesks called first (desk_view x.desk)

-- all have met: a worker has seen what the first desk has
pub record IsMet (s : Server) (first : DeskView) (w x : Worker) : Type 0 where
  pub fault : x.fault ≡ w.fault
  pub desk : IsDeskOf s x.desk
  pub heard : DeskHeard (desk_view w.desk) (desk_view x.desk)
  pub same : DeskSame first (desk_view x.desk)

abbrev pub AreMet : Server → DeskView → List Worker → List Worker → Type 0
AreMet s first old new = (i : ℕ) (w x : Worker) → slice_get old i ≡ Some w → slice_get new i ≡ Some x → IsMet s first w x

-- the desk of a worker at a place of a crew that has met
pub record IsOneOf (n : ℕ) (first v : DeskView) : Type 0 where
  pub number : v.number ≡ n
  pub desk : IsDesk v
  pub same : DeskSame first v

-- the first desk of a server and a crew for the actors of a file, which have met
pub record IsCrew (s : Server) (f : File) (first : Desk) (crew : List Worker) : Type 0 where
  pub desk : IsDeskOf s first
  pub desks : (i : ℕ) (w : Worker) → slice_get crew i ≡ Some w → IsDeskOf s w.desk
  pub each : (i : ℕ) (w : Worker) → slice_get crew i ≡ Some w → IsOneOf (suc i) (desk_view first) (desk_view w.desk)
  pub actors : length crew ≡ length f.actors
  pub shape : HasShape f (desk_view first)
  pub number : (desk_view first).number ≡ 0
  pub made : (desk_view first).made ≡ length crew + 1
  pub taken : (desk_view first).taken ≡ 0

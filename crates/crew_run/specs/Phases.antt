-- The phases of a file, as a crew works them.
use Rattle.std.specs.Prelude.{◌≡◌, ℕ, suc, ◌+◌, ◌≤◌, ◌⊎◌, Bool, true, false, List, [], length, take, flat_map, Option, Some, None, slice_get}
use mathlib.Core.List.{IsPrefix}
use Rattle.adept_actor.specs.Work.{Acts, CanWork, WorksLines}
use Rattle.adept_server.specs.{Desks.{CasePass, DeskView, IsDeskOf, KindPass, desk_view}, declared.servers.Server.Server}
use Rattle.crew_run.specs.{Crew.{IsDefinedUpTo, SeesMany}, Desks.{HasDoneAndHeard, IsIdlePass, kind_at, case_at}, declared.workers.Worker.Worker}
use Rattle.file_model.specs.{declared.files.File.File, declared.files.Line.Line}
use Rattle.legal_run.specs.{Legal.{AreTraces, IsActor, IsByPhases, Trace, done_by}, LineCalls.{AreBegun, AreCallsOfLines, Call, calls_of_case, calls_of_kind, lines_of}}
use Rattle.line_calls.specs.Files.{roles_of}
use Rattle.turn_cell.specs.{History.calls_of, Passes.PassView, declared.faults.CallFault.CallFault, declared.journal.Entry.Entry}
use Rattle.turn_cell.specs.declared.faults.CallFault.TheVariants as fault
use Rattle.wsm_sound.specs.declared.versions.CaseId.{CaseId}

-- a worker at a place of the crew that can work these lines
abbrev pub IsReadyAt : Server → List Line → ℕ → Worker → Type 0
IsReadyAt s lines i w = ((desk_view w.desk).number ≡ i + 1) × IsDeskOf s w.desk × CanWork (desk_view w.desk) lines

abbrev pub is_full_fault : Option CallFault → Bool
is_full_fault (Some fault.Full) = true
is_full_fault (Some fault.NoMemory) = false
is_full_fault None = false

-- a worker has worked its lines of a phase, at its own desk of a server
abbrev pub HasWorked : Server → File → List Line → Worker → Worker → Type 0
HasWorked s f lines w x = IsDeskOf s x.desk × WorksLines (roles_of f (desk_view w.desk).number) lines x.fault (desk_view w.desk) (desk_view x.desk)

-- a worker takes a line in its turn, where it has met no fault
abbrev pub TakesLine : List ℕ → Line → Worker → Worker → Option CallFault → Type 0
TakesLine roles line w x None = Acts roles line.act x.fault (desk_view w.desk) (desk_view x.desk)
TakesLine roles line w x (Some f) = x ≡ w

-- a worker as it was, but without the fault that it may have met
abbrev pub HasForgotten : Worker → Worker → Type 0
HasForgotten w x = (x.desk ≡ w.desk) × (x.fault ≡ None)

-- the calls of an actor's lines, perhaps up to a fault
abbrev pub Tries : File → List Line → ℕ → List Call → Type 0
Tries f lines a calls = AreCallsOfLines (roles_of f a) a (lines_of a lines) calls ⊎ AreBegun (roles_of f a) a (lines_of a lines) calls

-- A crew has worked a phase and met: each actor has tried its own lines, and has called nothing else.
pub record PhaseWorked (f : File) (lines : List Line) (trace : Trace) (old new : List Worker) : Type 0 where
  pub tries : (a : ℕ) → IsActor f a → Tries f lines a (trace a)
  pub many : length new ≡ length old
  pub each : (i : ℕ) (w x : Worker) → slice_get old i ≡ Some w → slice_get new i ≡ Some x → HasDoneAndHeard (trace (suc i)) (desk_view w.desk) (desk_view x.desk)

-- One cell, of which `at` finds the pass on a desk and `on` are the calls, once all have met: each actor has made the calls of these traces and no
-- others, the journal so far has them phase by phase, and begins with what the first desk has called.
pub record IsKept {M E R W S : Type 0} (f : File) (at : DeskView → Option (PassView M E R W S)) (on : List Call → List (Entry M E R W S)) (traces : List Trace) (crew : List Worker) (p : PassView M E R W S) : Type 0 where
  pub start : List (Entry M E R W S)
  pub begins : IsPrefix start p.seen
  pub first : calls_of 0 start ≡ p.own_calls
  pub none : (a : ℕ) → IsActor f a → calls_of a start ≡ []
  pub calls : IsByPhases f on traces p.seen
  pub each : (i : ℕ) (w : Worker) → slice_get crew i ≡ Some w → (q : PassView M E R W S) × (at (desk_view w.desk) ≡ Some q) × (q.own_calls ≡ on (done_by (suc i) traces)) × (q.past ≡ [])

-- each cell, where the first desk has defined so many types
pub record IsAlong (f : File) (done : ℕ) (traces : List Trace) (first : DeskView) (crew : List Worker) : Type 0 where
  pub kinds : (t : ℕ) (p : KindPass) → kind_at t first ≡ Some p → IsKept f (kind_at t) (calls_of_kind t) traces crew p × IsDefinedUpTo f.types done t p.own_calls × (p.past ≡ [])
  pub cases : (c : CaseId) (p : CasePass) → case_at c first ≡ Some p → IsKept f (case_at c) (calls_of_case c) traces crew p × IsIdlePass p

-- a crew has worked all phases
abbrev pub HasWorkedAll : File → DeskView → List Worker → Type 0
HasWorkedAll f first crew = (traces : List Trace) × AreTraces f f.phases traces × IsAlong f (length f.types) traces first crew

-- the lines of the first so many phases
abbrev pub lines_upto : File → ℕ → List Line
lines_upto f k = flat_map (λ lines. lines) (take k f.phases)

-- each actor has no more calls of a cell in these traces than lines in the first so many phases
pub record AreFew (f : File) (k : ℕ) (traces : List Trace) : Type 0 where
  pub kinds : (t a : ℕ) → IsActor f a → length (calls_of_kind t (done_by a traces)) ≤ length (lines_of a (lines_upto f k))
  pub cases : (c : CaseId) (a : ℕ) → IsActor f a → length (calls_of_case c (done_by a traces)) ≤ length (lines_of a (lines_upto f k))

-- The first desk has seen a full journal of a crew that did no more than its lines. There is no such crew: the proofs show it once the server is closed.
pub record IsOverfull (f : File) (first : DeskView) (crew : List Worker) : Type 0 where
  pub done : ℕ
  pub phases : ℕ
  pub traces : List Trace
  pub few : AreFew f phases traces
  pub along : IsAlong f done traces first crew
  pub many : SeesMany first

-- What an actor's work on lines leaves of its desk.
use Rattle.std.specs.Prelude.{◌≡◌, ℕ, ◌≤◌, List, [], ◌∷◌, length, Option, Some, None, Result, Ok, Err, slice_get}
use Rattle.adept_actor.specs.{Growth.{DeskHasDone}, Others.{LeavesCells, LeavesUnnamed}}
use Rattle.adept_server.specs.Desks.{KindPass, CasePass, DeskView, IsDefinedFor, case_count, case_pass, has_case, has_kind}
use Rattle.case_core.specs.Ages.{weight}
use Rattle.legal_run.specs.LineCalls.{Call as Told, AreOf, AreCallsOfLines, ArePart, AreBegun, lines_of}
use Rattle.file_model.specs.{declared.files.Act.Act, declared.files.Line.Line}
use Rattle.line_calls.specs.{Calls.{call_of, cells_in}, declared.calls.Call.Call}
use Rattle.line_calls.specs.declared.calls.Call.TheVariants as call
use Rattle.line_calls.specs.declared.calls.Told.TheVariants as told
use Rattle.type_core.specs.Machine.{weight as kind_weight}
use Rattle.turn_cell.specs.{declared.faults.CallFault.CallFault, declared.limits.TheConstants.MAX_ENTRIES}
use Rattle.turn_cell.specs.declared.faults.CallFault.TheVariants as fault
use Rattle.wsm_lists.specs.Rows.{AllRows}
use Rattle.wsm_sound.specs.declared.versions.CaseId.{CaseId}

-- A call can be made: its type or case is there, its event ages no machine by much, a type that is asked has a version, and there are the
-- cases that are to move.
abbrev pub CanCall : DeskView → Call → Type 0
CanCall v (call.Kind t e) = has_kind v t × (kind_weight e ≤ 60000)
CanCall v (call.Case c e) = has_case v c × (weight e ≤ 60000)
CanCall v (call.Newest t (told.Create c)) = (t ≡ c.type_no) × has_case v c × IsDefinedFor v c.type_no
CanCall v (call.Newest t (told.Migrate many)) = has_kind v t × IsDefinedFor v t × (many ≤ case_count v t)

-- the call of an act can, whoever makes it
abbrev pub CanAct : DeskView → Act → Type 0
CanAct v x = (a : ℕ) (roles : List ℕ) → CanCall v (call_of a roles x)

-- those of the desk's own lines can
abbrev pub CanWork : DeskView → List Line → Type 0
CanWork v lines = AllRows (λ l. l.actor ≡ v.number → CanAct v l.act) lines

-- a cell of which the desk has seen as many entries as a journal may have
pub data SeesFull (v : DeskView) : Type 0 where
  of_kind : (t : ℕ) (p : KindPass) → slice_get v.kinds t ≡ Some p → length p.seen ≡ MAX_ENTRIES → SeesFull v
  of_case : (c : CaseId) (p : CasePass) → case_pass v c ≡ Some p → length p.seen ≡ MAX_ENTRIES → SeesFull v

-- the first fault among answers
abbrev pub first_fault : {R : Type 0} → List (Result R CallFault) → Option CallFault
first_fault [] = None
first_fault (Ok r ∷ answers) = first_fault answers
first_fault (Err f ∷ answers) = Some f

-- the desk has made calls that are such
abbrev pub Does : (List Told → Type 0) → DeskView → DeskView → Type 0
Does Fit v w = (calls : List Told) × Fit calls × DeskHasDone calls v w

-- What work leaves that met no fault, or this one: the calls of the whole, or those up to the fault. It is `Full` only where a cell is.
abbrev pub Leaves : (List Told → Type 0) → (List Told → Type 0) → Option CallFault → DeskView → DeskView → Type 0
Leaves Whole Begun None v w = Does Whole v w
Leaves Whole Begun (Some f) v w = Does Begun v w × (f ≡ fault.Full → SeesFull w)

-- a desk makes a call, an actor with these roles works an act, and the lines of its own among these: passes of other cells are as before
abbrev pub Makes : Call → Option CallFault → DeskView → DeskView → Type 0
Makes k met v w = Leaves (AreOf v.number k) (ArePart v.number k) met v w × LeavesCells (cells_in k) v w

abbrev pub Acts : List ℕ → Act → Option CallFault → DeskView → DeskView → Type 0
Acts roles x met v w = Makes (call_of v.number roles x) met v w

abbrev pub WorksLines : List ℕ → List Line → Option CallFault → DeskView → DeskView → Type 0
WorksLines roles lines met v w = Leaves (AreCallsOfLines roles v.number (lines_of v.number lines)) (AreBegun roles v.number (lines_of v.number lines)) met v w × LeavesUnnamed lines v w

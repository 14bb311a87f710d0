-- Which runs of a file are legal.
use Rattle.std.specs.Prelude.{◌≡◌, ℕ, ◌≤◌, List, [], ◌∷◌, length, take, flat_map, slice_get, Some, All}
use mathlib.Core.List.{IsPrefix}
use Rattle.case_core.specs.{CaseModel.not_created, Machine.{case_after, case_reply}}
use Rattle.legal_run.specs.LineCalls.{Call, calls_of_kind, calls_of_case, AreCallsOfLines, lines_of}
use Rattle.file_model.specs.{declared.files.CaseDecl.CaseDecl, declared.files.File.File, declared.files.Line.Line, declared.files.TypeDecl.TypeDecl}
use Rattle.line_calls.specs.Files.{roles_of}
use Rattle.script_run.specs.{Entries.KindEntry, Serial.program, declared.runs.ClosedCase.ClosedCase, declared.runs.ClosedKind.ClosedKind, declared.runs.Run.Run}
use Rattle.turn_cell.specs.{History.{IsLegal, calls_of, entry, state_after}, declared.journal.Entry.Entry}
use Rattle.type_core.specs.{KindModel.not_defined, Machine.{kind_after, kind_reply}}
use Rattle.type_core.specs.declared.events.KindEvent.TheVariants as event
use Rattle.type_core.specs.declared.replies.KindReply.TheVariants as reply

-- the numbers of the actors
abbrev pub IsActor : File → ℕ → Type 0
IsActor f a = (1 ≤ a) × (a ≤ length f.actors)

-- what each actor did in a phase
abbrev pub Trace : Type 0
Trace = ℕ → List Call

-- in a phase each actor did what its lines stand for, in file order
abbrev pub IsTrace : File → List Line → Trace → Type 0
IsTrace f lines trace = (a : ℕ) → IsActor f a → AreCallsOfLines (roles_of f a) a (lines_of a lines) (trace a)

-- one trace for each phase
abbrev pub AreTraces : File → List (List Line) → List Trace → Type 0
AreTraces f [] [] = Unit {0}
AreTraces f (lines ∷ phases) (trace ∷ traces) = IsTrace f lines trace × AreTraces f phases traces
AreTraces f _ _ = ⊥

-- what an actor did in some phases
abbrev pub done_by : ℕ → List Trace → List Call
done_by a traces = flat_map (λ trace. trace a) traces

module _ {M E R W S : Type 0} (f : File) (on : List Call → List (Entry M E R W S)) where
  -- the entries of each actor are its calls
  abbrev pub HasCalls : List Trace → List (Entry M E R W S) → Type 0
  HasCalls traces journal = (a : ℕ) → IsActor f a → calls_of a journal ≡ on (done_by a traces)

  -- so it is in the journal, and behind each phase in a beginning of it: no entry of a phase stands before one of an earlier phase
  pub record IsByPhases (traces : List Trace) (journal : List (Entry M E R W S)) : Type 0 where
    pub whole : HasCalls traces journal
    pub behind : (k : ℕ) → k ≤ length f.phases → (start : List (Entry M E R W S)) × IsPrefix start journal × HasCalls (take k traces) start

-- each entry is an actor's
abbrev pub AreOfActors : {M E R W S : Type 0} → File → List (Entry M E R W S) → Type 0
AreOfActors f entries = All (λ e. IsActor f e.caller) entries

-- a type at the end: the program defined it, and each other call is an actor's
pub record IsLegalKind (f : File) (traces : List Trace) (t : ℕ) (d : TypeDecl) (k : ClosedKind) : Type 0 where
  pub legal : IsLegal kind_after kind_reply (not_defined t) k.journal
  pub machine : k.machine ≡ state_after kind_after (not_defined t) k.journal
  pub others : List KindEntry
  pub defined : k.journal ≡ entry program (event.Define d.schema) reply.Defined ∷ others
  pub callers : AreOfActors f others
  pub calls : IsByPhases f (calls_of_kind t) traces k.journal

-- a case at the end: each call is an actor's
pub record IsLegalCase (f : File) (traces : List Trace) (d : CaseDecl) (c : ClosedCase) : Type 0 where
  pub legal : IsLegal case_after case_reply (not_created d.id.type_no) c.journal
  pub machine : c.machine ≡ state_after case_after (not_created d.id.type_no) c.journal
  pub callers : AreOfActors f c.journal
  pub calls : IsByPhases f (calls_of_case d.id) traces c.journal

-- A legal run of a file: each type and each case of the file is legal by the same traces of its lines.
pub record Legal (f : File) (r : Run) : Type 0 where
  pub traces : List Trace
  pub of_lines : AreTraces f f.phases traces
  pub as_many_kinds : length r.kinds ≡ length f.types
  pub as_many_cases : length r.cases ≡ length f.cases
  pub kinds : (t : ℕ) (d : TypeDecl) (k : ClosedKind) → slice_get f.types t ≡ Some d → slice_get r.kinds t ≡ Some k → IsLegalKind f traces t d k
  pub cases : (i : ℕ) (d : CaseDecl) (c : ClosedCase) → slice_get f.cases i ≡ Some d → slice_get r.cases i ≡ Some c → IsLegalCase f traces d c

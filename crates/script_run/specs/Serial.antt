-- The run that makes the calls of all lines in file order.
use Rattle.std.specs.Prelude.{ℕ, ◌+◌, List, [], ◌∷◌, map, fold}
use Rattle.case_core.specs.CaseModel.{not_created}
use Rattle.file_model.specs.{declared.files.CaseDecl.CaseDecl, declared.files.File.File, declared.files.Line.Line, declared.files.TypeDecl.TypeDecl}
use Rattle.script_run.specs.{Calls.{call_kind, worked}, declared.runs.ClosedCase.ClosedCase, declared.runs.ClosedKind.ClosedKind, declared.runs.Run.Run}
use Rattle.type_core.specs.KindModel.{not_defined}
use Rattle.type_core.specs.declared.events.KindEvent.TheVariants as kind_event

-- the number of the program itself
abbrev pub program : ℕ
program = 0

-- the program defines each type
abbrev pub defined : ℕ → TypeDecl → ClosedKind
defined t d = call_kind program (kind_event.Define d.schema) (record { machine = not_defined t; journal = [] })

abbrev pub kinds_from : ℕ → List TypeDecl → List ClosedKind
kinds_from t [] = []
kinds_from t (d ∷ ds) = defined t d ∷ kinds_from (t + 1) ds

-- nobody has called a case
abbrev pub uncalled : CaseDecl → ClosedCase
uncalled d = record { machine = not_created d.id.type_no; journal = [] }

abbrev pub opening : File → Run
opening f = record { kinds = kinds_from 0 f.types; cases = map uncalled f.cases }

-- the calls of a phase, line by line
abbrev pub phase_worked : File → Run → List Line → Run
phase_worked f r lines = fold (worked f) r lines

abbrev pub serial : File → Run
serial f = fold (phase_worked f) (opening f) f.phases

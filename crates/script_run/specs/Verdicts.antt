-- What the types answer to the lines that install, in file order. No other line changes a type.
use Rattle.std.specs.{Prelude.{ℕ, ◌+◌, Bool, true, false, List, [], ◌∷◌, ◌++◌, fold, slice_get, slice_set, Option, Some, None}, List.list_any, Option.is_some}
use Rattle.file_model.specs.{declared.files.Act.Act, declared.files.File.File, declared.files.Line.Line, declared.files.TypeDecl.TypeDecl}
use Rattle.line_calls.specs.Calls.{installed}
use Rattle.script_run.specs.declared.runs.Verdict.{Verdict}
use Rattle.type_core.specs.{KindModel.{KindModel, not_defined}, Machine.next_kind, declared.events.KindEvent.KindEvent}
use Rattle.type_core.specs.declared.events.KindEvent.TheVariants as kind_event
use Rattle.wsm_ops.specs.declared.operations.Op.{Op}

-- the types, and what they answered so far
pub record Checking : Type 0 where
  pub kinds : List KindModel
  pub verdicts : List Verdict

abbrev pub stepped : KindEvent → KindModel → KindModel
stepped e k = (next_kind k e).0

-- a type behind its definition
abbrev pub defined_kind : ℕ → TypeDecl → KindModel
defined_kind t d = stepped (kind_event.Define d.schema) (not_defined t)

abbrev pub defined_from : ℕ → List TypeDecl → List KindModel
defined_from t [] = []
defined_from t (d ∷ ds) = defined_kind t d ∷ defined_from (t + 1) ds

-- what the type with this number answers, where it is there
abbrev pub judged_by : ℕ → ℕ → KindEvent → Checking → Option KindModel → Checking
judged_by at t e s None = s
judged_by at t e s (Some k) = record {
  kinds = slice_set s.kinds t (stepped e k);
  verdicts = s.verdicts ++ record { at = at; type_no = t; reply = (next_kind k e).1 } ∷ [];
}

abbrev pub judged : ℕ → ℕ → KindEvent → Checking → Checking
judged at t e s = judged_by at t e s (slice_get s.kinds t)

abbrev pub judged_install : ℕ → Option (ℕ × List Op) → Checking → Checking
judged_install at None s = s
judged_install at (Some i) s = judged at i.0 (kind_event.Install i.1) s

abbrev pub judged_act : ℕ → Act → Checking → Checking
judged_act at x s = judged_install at (installed x) s

abbrev pub judged_line : Checking → Line → Checking
judged_line s l = judged_act l.at l.act s

abbrev pub judged_phase : Checking → List Line → Checking
judged_phase s lines = fold judged_line s lines

abbrev pub verdicts : File → List Verdict
verdicts f = (fold judged_phase (record { kinds = defined_from 0 f.types; verdicts = [] }) f.phases).verdicts

-- whether an act installs, and whether a line of a phase does
abbrev pub installs : Act → Bool
installs x = is_some (installed x)

abbrev pub some_install : List Line → Bool
some_install lines = list_any (λ l. installs l.act) lines

-- The run that a closed server leaves, in the order of the file's declarations.
use Rattle.std.specs.Prelude.{◌≡◌, ℕ, List, length, map, Some, slice_get}
use Rattle.adept_server.specs.{Desks.at_case, declared.closing.ClosedServer.ClosedServer}
use Rattle.case_core.specs.{CaseModel.CaseModel, Instances.CountedCase, declared.events.Event.Event, declared.replies.Reply.Reply, declared.views.View.View}
use Rattle.file_model.specs.{declared.files.CaseDecl.CaseDecl, declared.files.File.File}
use Rattle.script_run.specs.{declared.runs.ClosedCase.ClosedCase, declared.runs.ClosedKind.ClosedKind, declared.runs.Run.Run}
use Rattle.turn_cell.specs.declared.journal.Closed.{Closed}
use Rattle.type_core.specs.{KindModel.KindModel, declared.events.KindEvent.KindEvent, declared.replies.KindReply.KindReply}

-- a closed cell as a run keeps it
abbrev pub closed_kind : Closed KindModel KindEvent KindReply ℕ KindModel → ClosedKind
closed_kind c = record { machine = c.machine; journal = c.journal.items.items }

abbrev pub closed_case : Closed CountedCase Event Reply View CaseModel → ClosedCase
closed_case c = record { machine = c.machine.state; journal = c.journal.items.items }

-- what a declared case left, in rows of closed cases
abbrev pub IsClosedAt : List (List (Closed CountedCase Event Reply View CaseModel)) → CaseDecl → ClosedCase → Type 0
IsClosedAt rows d k = (c : Closed CountedCase Event Reply View CaseModel) × (at_case rows d.id ≡ Some c) × (k ≡ closed_case c)

-- the types in their order, and each case where it was declared
pub record IsRunOf (f : File) (s : ClosedServer) (r : Run) : Type 0 where
  pub kinds : r.kinds ≡ map closed_kind s.kinds.items
  pub decls : length r.cases ≡ length f.cases
  pub cases : (i : ℕ) (d : CaseDecl) (k : ClosedCase) → slice_get f.cases i ≡ Some d → slice_get r.cases i ≡ Some k → IsClosedAt (map (λ row. row.items) s.cases.items) d k

-- What holds of the case machine alone, behind any events.
use Rattle.std.specs.{Prelude.{◌≡◌, ℕ, ◌+◌, ◌≤◌, true, List, [], ◌∷◌}, List.fold}
use Rattle.case_core.specs.{Ages.weight, CaseModel.{CaseModel, not_created}, Kept.KeptIn, Machine.case_after, Promises.{IsFairView, ShowsLastWrites, goes_on}, Shown.shown, declared.events.Event.Event}
use Rattle.case_core.specs.declared.events.Event.TheVariants as event
use Rattle.wsm_lists.specs.Rows.{AllRows}
use Rattle.wsm_sound.specs.Flattened.{IsChecked}

-- the version that an event brings was checked
abbrev pub BringsChecked : Event → Type 0
BringsChecked (event.Create version) = IsChecked version.schema
BringsChecked (event.Migrate version) = IsChecked version.schema
BringsChecked _ = Unit {0}

abbrev pub weights : List Event → ℕ
weights [] = 0
weights (e ∷ es) = weight e + weights es

-- what a case shows is never stuck, and finds its data
abbrev pub IsShownWell : CaseModel → Type 0
IsShownWell s = (goes_on (shown s) ≡ true) × (IsFairView s (shown s) × ShowsLastWrites s.live (shown s))

-- whatever events come to a case, it keeps what a case keeps, and shows it well
abbrev pub JournalsKeep : ℕ → Type 0
JournalsKeep type_no =
    (es : List Event) → AllRows BringsChecked es → weights es ≤ 4000000000 → KeptIn (fold case_after (not_created type_no) es).live × IsShownWell (fold case_after (not_created type_no) es)

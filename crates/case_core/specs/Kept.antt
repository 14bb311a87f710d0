-- What stays true of a case from its creation on.
use Rattle.std.specs.Prelude.{◌≡◌, ◌<◌, ◌^◌, ℕ, true, List, length, Option, Some, None, Ok}
use Rattle.case_core.specs.CaseModel.{LiveModel, replay_of_case}
use Rattle.wsm_ops.specs.Apply.{applied}
use Rattle.wsm_schema.specs.{Flat.flat_of, Marks.{is_again_of, is_end_of, is_start_of, marks_of}, declared.entries.Entry.Entry, declared.marks.Mark.Mark}
use Rattle.wsm_sound.specs.Flattened.{IsChecked}
use Rattle.wsm_steps.specs.Whole.{is_whole, agains_once}
use Rattle.wsm_trail.specs.TrailWithRoom.{Rises}
use Rattle.wsm_walk.specs.FirstBad.{AtMostOne}

-- the schema is sound, and is the case's own operations applied to its base version; the trail replays whole on it, at
-- rising positions below the next one, and repeats no loop's end twice
-- (a trail that replays whole starts and ends no node twice)
pub record Kept (l : LiveModel) : Type 0 where
  pub checked : IsChecked l.schema
  pub own : applied l.base.schema l.own ≡ Ok l.schema
  pub few : length l.own < 2 ^ 32
  pub replays : is_whole (replay_of_case l) ≡ true
  pub rises : Rises 1 l.trail.next l.trail.entries
  pub once : agains_once l.trail.entries ≡ true

abbrev pub KeptIn : Option LiveModel → Type 0
KeptIn None = Unit {0}
KeptIn (Some l) = Kept l

-- the marks of a case's trail on its schema
abbrev pub marks_in : LiveModel → List (ℕ × Mark)
marks_in l = marks_of (flat_of l.schema) l.trail.entries

-- each node has one Start, one End and one Again in a trail, or none
abbrev pub IsOnceEach : List (ℕ × Entry) → Type 0
IsOnceEach es = (n : ℕ) → AtMostOne (λ e. is_start_of n e.1) es × (AtMostOne (λ e. is_end_of n e.1) es × AtMostOne (λ e. is_again_of n e.1) es)

abbrev pub OnceIn : Option LiveModel → Type 0
OnceIn None = Unit {0}
OnceIn (Some l) = IsOnceEach l.trail.entries

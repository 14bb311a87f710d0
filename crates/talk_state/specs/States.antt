-- The state of a talk, and of which units it is.
use Rattle.std.specs.Prelude.{◌≡◌, ℕ, ◌-◌, ◌*◌, ◌≤◌, ◌<◌, ◌^◌, Bool, true, List, ◌∷◌, length, take, flat_map, Option}
use Rattle.file_words.specs.Lines.{Bytes}
use Rattle.file_model.specs.{Room.count_of_names, declared.states.Contents.Contents}
use Rattle.line_calls.specs.declared.calls.Cells.{Cells}
use Rattle.script_run.specs.Oldest.{oldest}
use Rattle.store_disk.specs.Image.{all_framed}
use Rattle.talk_rules.specs.Units.{header}
use Rattle.talk_state.specs.Held.{held_by, placed_in, placing_of}
use Rattle.unit_run.specs.Runs.{Placing}

-- what was read, the run with the places of its cases, whom the last unit called, the bytes of all units, where those of the
-- last begin, how many there are, how long their image is, and whether all of them were worked to the end
pub record State : Type 0 where
  pub contents : Contents
  pub placing : Placing
  pub called : Option Cells
  pub bytes : Bytes
  pub last : ℕ
  pub count : ℕ
  pub long : ℕ
  pub whole : Bool

-- these units are held
pub record Holds (units : List Bytes) (s : State) : Type 0 where
  pub contents : s.contents ≡ (held_by units).contents
  pub placing : s.placing ≡ placing_of (held_by units)
  pub called : s.called ≡ (held_by units).called
  pub bytes : s.bytes ≡ flat_map (λ unit. unit) units
  pub last : s.last ≡ length (flat_map (λ unit. unit) (take (length units - 1) units))
  pub count : s.count ≡ length units
  pub long : s.long ≡ length (all_framed (header ∷ units))
  pub whole : s.whole ≡ true

-- what the next unit needs of a state: the run is that of what was declared, and there is room
pub record IsSound (s : State) : Type 0 where
  pub placing : s.placing ≡ placed_in s.contents s.placing.run
  pub kinds : length s.placing.run.kinds ≡ length s.contents.types.items
  pub cases : length s.placing.run.cases ≡ length s.contents.cases.items
  pub young : oldest s.placing.run.cases ≤ 2 * s.long
  pub names : count_of_names s.contents ≤ s.long
  pub last : s.last ≤ length s.bytes
  pub bytes : length s.bytes ≤ s.long
  pub count : s.count ≤ s.long
  pub short : s.long < 2 ^ 30

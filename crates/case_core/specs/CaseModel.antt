-- A case as contracts see it.
use Rattle.std.specs.Prelude.{ℕ, Bool, List, [], Option, None, is_some, if◌then◌else◌}
use Rattle.wsm_schema.specs.{SchemaModel.SchemaModel, Flat.{flat_of, cards_of}, Replay.{Outcome, whole, fails, replay_of, is_in_state}, Rules.{Spots, spot_in, marking_of}, declared.cards.Card.Card, Trail.{TrailModel, no_trail, value_below}}
use Rattle.wsm_schema.specs.declared.states.State.{State}
use Rattle.wsm_schema.specs.declared.states.State.TheVariants.{Completed}
use Rattle.wsm_lists.specs.declared.values.Value.{Value}
use Rattle.wsm_ops.specs.declared.operations.Op.{Op}
use Rattle.wsm_sound.specs.VersionModel.{VersionModel}

-- a case that was created: the version that it stands on, its own operations, its schema, and its trail
pub record LiveModel : Type 0 where
  pub base : VersionModel
  pub own : List Op
  pub schema : SchemaModel
  pub trail : TrailModel

-- a case of a type, not created or live
pub record CaseModel : Type 0 where
  pub type_no : ℕ
  pub live : Option LiveModel

-- a case that is not created
abbrev pub not_created : ℕ → CaseModel
not_created type_no = record { type_no = type_no; live = None }

-- a case that was just created on a version
abbrev pub created_on : VersionModel → LiveModel
created_on version = record { base = version; own = []; schema = version.schema; trail = no_trail }

-- a case on another version or schema keeps its trail
abbrev pub on_schema : LiveModel → VersionModel → List Op → SchemaModel → LiveModel
on_schema l base own schema = record { base = base; own = own; schema = schema; trail = l.trail }

-- a case that was tried on another version or schema: as before where an entry of its trail fails, else on it
abbrev pub tried_on : LiveModel → VersionModel → List Op → SchemaModel → Option ℕ → LiveModel
tried_on l base own schema failed = if is_some failed then l else on_schema l base own schema

-- the states of a case's nodes are those of the replay of its trail on its schema
abbrev pub replay_of_case : LiveModel → Outcome
replay_of_case l = replay_of (flat_of l.schema) l.trail.entries

-- the spots of a case's nodes, ascending by node; none where the trail does not replay
abbrev pub shown_after : List Card → Outcome → Spots
shown_after cards (whole spots) = marking_of cards spots
shown_after cards (fails position) = []

abbrev pub shown_spots : LiveModel → Spots
shown_spots l = shown_after (cards_of l.schema) (replay_of_case l)

abbrev pub state_of : LiveModel → ℕ → State
state_of l n = (spot_in n (shown_spots l)).state

-- the value of an element before the next position
abbrev pub value_now : LiveModel → ℕ → Option Value
value_now l d = value_below d l.trail.next l.trail.entries

-- a case is finished where its finish node is completed
abbrev pub is_finished : LiveModel → Bool
is_finished l = is_in_state (state_of l l.schema.finish) Completed

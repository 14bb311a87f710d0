-- The state of a server between two items, and inside one.
use Rattle.std.specs.Prelude.{◌≡◌, Bool, List, ◌∷◌}
use Rattle.file_words.specs.Lines.{Bytes}
use Rattle.talk_rules.specs.Units.{header}
use Rattle.talk_server.specs.Talks.{units_in}

-- the payloads are the header and the units that are held; of the item that has begun these bytes were taken, and it is the
-- first of the talk or not
pub record Serves {H : Type 0} (holds : H → List Bytes → Type 0) (first : Bool) (ps : List Bytes) (begun : Bytes) (state : H) (item : Bytes) (is_first : Bool) : Type 0 where
  pub headed : ps ≡ header ∷ units_in ps
  pub keeps : holds state (units_in ps)
  pub begun_with : item ≡ begun
  pub at_first : is_first ≡ first

-- whatever is held where an item was taken
abbrev pub WhereServed : {H : Type 0} → (H → List Bytes → Type 0) → H → Bytes → Bool → (Bool → List Bytes → Bytes → Type 0) → Type 0
WhereServed holds state item is_first tells = (first : Bool) (ps : List Bytes) (begun : Bytes) → Serves holds first ps begun state item is_first → tells first ps begun

-- The words of a report.
use Rattle.std.specs.{Prelude.{◌≡◌, ℕ, ◌-◌, ◌<◌, ◌==◌, nat_lt, Bool, true, ◌||◌, [], ◌∷◌, ◌++◌, flat_map, length, take, slice_index, slice_get, Option, Some, None, if◌then◌else◌, codes, decimal}, Fmt.signed_decimal}
use Rattle.fault_words.specs.FaultWords.{named}
use Rattle.file_limits.specs.declared.TheConstants.{FIRST_NAMED_ROLE}
use Rattle.file_words.specs.Lines.{Bytes}
use Rattle.file_model.specs.{declared.files.ActorDecl.ActorDecl, declared.files.File.File, declared.files.TypeDecl.TypeDecl}
use Rattle.wsm_lists.specs.declared.values.Value.{Value}
use Rattle.wsm_lists.specs.declared.values.Value.TheVariants as value
use Rattle.wsm_schema.specs.declared.states.State.{State}
use Rattle.wsm_schema.specs.declared.states.State.TheVariants as state

-- a name, or the number where the file has no name for it
abbrev pub node_text : File → ℕ → Bytes
node_text f n = named f.nodes n

abbrev pub element_text : File → ℕ → Bytes
element_text f d = named f.elements d

-- the name of a role, or the number of one that has none
abbrev pub role_name : Option Bytes → ℕ → Bytes
role_name None r = decimal r
role_name (Some name) r = name

abbrev pub role_text : File → ℕ → Bytes
role_text f r = if nat_lt r FIRST_NAMED_ROLE then decimal r else role_name (slice_get f.roles (r - FIRST_NAMED_ROLE)) r

-- the name of a type
abbrev pub type_name : Option TypeDecl → ℕ → Bytes
type_name None t = decimal t
type_name (Some d) t = d.name

abbrev pub type_text : File → ℕ → Bytes
type_text f t = type_name (slice_get f.types t) t

-- the name of an actor
abbrev pub actor_name : Option ActorDecl → ℕ → Bytes
actor_name None a = decimal a
actor_name (Some d) a = d.name

-- the program itself is caller 0, and actors are numbered from 1
abbrev pub caller_text : File → ℕ → Bytes
caller_text f a = if a == 0 then codes "-" else actor_name (slice_get f.actors (a - 1)) a

-- in a quoted text, " and \ stand behind a \
abbrev pub is_escaped : ℕ → Bool
is_escaped b = b == 34 || b == 92

abbrev pub escaped : ℕ → Bytes
escaped b = if is_escaped b then 92 ∷ b ∷ [] else b ∷ []

-- before this place no byte is escaped, and the one there is
pub record EndsRun (t : Bytes) (at : ℕ) : Type 0 where
  pub within : at < length t
  pub plain : flat_map escaped (take at t) ≡ take at t
  pub marked : is_escaped (slice_index t at) ≡ true

abbrev pub text_in_quotes : Bytes → Bytes
text_in_quotes t = codes "\"" ++ (flat_map escaped t ++ codes "\"")

abbrev pub value_text : Value → Bytes
value_text (value.Int n) = signed_decimal n
value_text (value.Text t) = text_in_quotes t

abbrev pub value_or_none : Option Value → Bytes
value_or_none None = codes "-"
value_or_none (Some v) = value_text v

-- an element behind a space, and what it is
abbrev pub element_is : File → ℕ → Bytes
element_is f d = codes " " ++ (element_text f d ++ codes "=")

abbrev pub assigned : File → ℕ × Value → Bytes
assigned f w = element_is f w.0 ++ value_text w.1

abbrev pub read_text : File → ℕ × Option Value → Bytes
read_text f r = element_is f r.0 ++ value_or_none r.1

-- an element behind a space
abbrev pub listed_element : File → ℕ → Bytes
listed_element f d = codes " " ++ element_text f d

-- a node behind a space, with what stands behind it
abbrev pub node_then : File → ℕ → Bytes → Bytes
node_then f n mark = codes " " ++ (node_text f n ++ mark)

abbrev pub letter : State → Bytes
letter state.NotActivated = codes "N"
letter state.Activated = codes "A"
letter state.Running = codes "R"
letter state.Completed = codes "C"
letter state.Skipped = codes "S"

-- two nodes
abbrev pub node_and_node : File → ℕ → ℕ → Bytes
node_and_node f m n = node_text f m ++ (codes " " ++ node_text f n)

-- a node and an element
abbrev pub node_and_element : File → ℕ → ℕ → Bytes
node_and_element f n d = node_text f n ++ listed_element f d

-- a node and the code of one of its branches
abbrev pub node_and_code : File → ℕ → ℕ → Bytes
node_and_code f n code = node_text f n ++ (codes " " ++ decimal code)

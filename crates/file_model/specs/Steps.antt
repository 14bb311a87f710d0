-- What was read so far, where the next line stands, and what a line makes of it.
use Rattle.std.specs.Prelude.{ℕ, ◌+◌, Bool, List, [], ◌∷◌, ◌++◌, Option, Some, None, Result, Ok, Err, if◌then◌else◌, codes}
use Rattle.file_limits.specs.declared.TheConstants.{FIRST_NAMED_ROLE, MAX_ACTORS, MAX_CASES, MAX_MIGRATIONS, MAX_TYPES}
use Rattle.file_words.specs.Lines.{Bytes}
use Rattle.file_names.specs.Names.{noted, number_of}
use Rattle.file_forms.specs.Forms.{RoleWord, by_number, by_name}
use Rattle.file_model.specs.{declared.files.Line.Line, declared.refusals.FileLimit.FileLimit, declared.refusals.Why.Why, declared.states.Contents.Contents, declared.states.Limits.Limits, declared.states.Section.Section}
use Rattle.file_model.specs.declared.refusals.Why.TheVariants as why
use Rattle.file_model.specs.declared.states.Section.TheVariants as section

-- how much a file may declare
abbrev pub file_limits : Limits
file_limits = record { types = MAX_TYPES; actors = MAX_ACTORS; cases = MAX_CASES; migrations = MAX_MIGRATIONS }

-- before the first line, `start` is node 0 and `finish` is node 1
abbrev pub no_contents : Contents
no_contents = record {
  limits = file_limits;
  format = 1;
  nodes = codes "start" ∷ codes "finish" ∷ [];
  elements = [];
  roles = [];
  types = record { names = []; items = [] };
  actors = record { names = []; items = [] };
  cases = record { names = []; items = [] };
  phases = [];
  current = None;
  counts = record { lines = 0; installs = 0; migrations = 0 };
}

-- what was read so far, and where the next line stands
pub record State : Type 0 where
  pub place : Section
  pub contents : Contents

abbrev pub at_place : Section → Contents → State
at_place p c = record { place = p; contents = c }

-- the header may name a format up to this one
abbrev pub opening : ℕ → State
opening newest = at_place (section.Head newest) no_contents

abbrev pub outside : Contents → State
outside c = at_place section.Outside c

-- the state behind a line, or why there is none, with what was read so far
abbrev pub Step : Type 0
Step = Result State (Why × Contents)

abbrev pub refuse : Contents → Why → Step
refuse c w = Err (w, c)

-- the state, unless something speaks against it
abbrev pub unless : Option Why → Contents → State → Step
unless None c s = Ok s
unless (Some w) c s = refuse c w

abbrev pub over : Bool → FileLimit → Option Why
over test limit = if test then Some (why.Limit limit) else None

abbrev pub twice : Bool → Option Why
twice test = if test then Some why.Twice else None

-- the number of a node or an element, which gets the next one where it has none, and the contents with it
abbrev pub node_in : Bytes → Contents → ℕ
node_in n c = number_of (noted c.nodes n) n

abbrev pub with_node : Bytes → Contents → Contents
with_node n c = record c { nodes = noted c.nodes n }

abbrev pub element_in : Bytes → Contents → ℕ
element_in e c = number_of (noted c.elements e) e

abbrev pub with_element : Bytes → Contents → Contents
with_element e c = record c { elements = noted c.elements e }

-- the number of a role, where so many have names before, and the names with that of the role
abbrev pub role_number : List Bytes → RoleWord → ℕ
role_number names (by_number n) = n
role_number names (by_name r) = FIRST_NAMED_ROLE + number_of (noted names r) r

abbrev pub role_noted : List Bytes → RoleWord → List Bytes
role_noted names (by_number n) = names
role_noted names (by_name r) = noted names r

abbrev pub role_in : RoleWord → Contents → ℕ
role_in r c = role_number c.roles r

abbrev pub with_role : RoleWord → Contents → Contents
with_role r c = record c { roles = role_noted c.roles r }

-- the lines of the open phase, and one more; a line that stands in no phase begins one
abbrev pub open_lines : Option (List Line) → List Line
open_lines None = []
open_lines (Some lines) = lines

abbrev pub with_script_line : Line → Contents → Contents
with_script_line l c = record c { current = Some (open_lines c.current ++ l ∷ []) }

-- the phases with the open one
abbrev pub phases_with : Option (List Line) → List (List Line) → List (List Line)
phases_with None phases = phases
phases_with (Some lines) phases = phases ++ lines ∷ []

abbrev pub all_phases : Contents → List (List Line)
all_phases c = phases_with c.current c.phases

-- the number of a node or an element behind a node in its line, and the contents with both
abbrev pub node_behind : Bytes → Bytes → Contents → ℕ
node_behind a b c = node_in b (with_node a c)

abbrev pub with_nodes : Bytes → Bytes → Contents → Contents
with_nodes a b c = with_node b (with_node a c)

abbrev pub element_behind : Bytes → Bytes → Contents → ℕ
element_behind n e c = element_in e (with_node n c)

abbrev pub with_node_and_element : Bytes → Bytes → Contents → Contents
with_node_and_element n e c = with_element e (with_node n c)

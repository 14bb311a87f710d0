-- What was read of a file and what is held of the same lines agree, but for lines and their numbers, phases and what limits count.
use Rattle.std.specs.Prelude.{◌≡◌, ◌⊎◌, ◌≤◌, ℕ, List, [], ◌∷◌, ◌++◌, map, length, Option, Some, None, Ok, Err}
use Rattle.file_model.specs.{Steps.{State, Step, phases_with}, declared.files.Act.Act, declared.files.Line.Line, declared.refusals.FileLimit.FileLimit, declared.refusals.Why.Why, declared.states.Contents.Contents}
use Rattle.file_model.specs.{declared.states.Counts.Counts, declared.states.Group.Group, declared.states.Limits.Limits, declared.states.Section.Section}
use Rattle.file_model.specs.declared.refusals.FileLimit.TheVariants as limit
use Rattle.file_model.specs.declared.refusals.Why.TheVariants as why
use Rattle.file_model.specs.declared.states.Section.TheVariants as section

-- ---- limits that a file has, and what is held has not, or only far above them
abbrev pub IsFileLimit : FileLimit → Type 0
IsFileLimit limit.Types = Unit {0}
IsFileLimit limit.Actors = Unit {0}
IsFileLimit limit.Cases = Unit {0}
IsFileLimit limit.Phases = Unit {0}
IsFileLimit limit.Lines = Unit {0}
IsFileLimit limit.Installs = Unit {0}
IsFileLimit limit.Migrations = Unit {0}
IsFileLimit _ = ⊥

abbrev pub IsOfFile : Why → Type 0
IsOfFile (why.Limit l) = IsFileLimit l
IsOfFile _ = ⊥

-- ---- lines by who acts and how
abbrev pub deed_of : Line → ℕ × Act
deed_of l = (l.actor, l.act)

abbrev pub deeds_in : List (List Line) → List (ℕ × Act)
deeds_in [] = []
deeds_in (lines ∷ phases) = map deed_of lines ++ deeds_in phases

-- ---- the part of contents in which the two differ
pub record Rest : Type 0 where
  pub limits : Limits
  pub phases : List (List Line)
  pub current : Option (List Line)
  pub counts : Counts

abbrev pub rest_of : Contents → Rest
rest_of c = record { limits = c.limits; phases = c.phases; current = c.current; counts = c.counts }

abbrev pub but_for : Rest → Contents → Contents
but_for r c = record c { limits = r.limits; phases = r.phases; current = r.current; counts = r.counts }

abbrev pub deeds : Rest → List (ℕ × Act)
deeds r = deeds_in (phases_with r.current r.phases)

abbrev pub opens : Option (List Line) → ℕ
opens None = 0
opens (Some lines) = 1

-- less may be declared in a file and more is counted there, and its lines are some others and those that are held
pub record Within (before : List (ℕ × Act)) (file held : Rest) : Type 0 where
  pub types : file.limits.types ≤ held.limits.types
  pub actors : file.limits.actors ≤ held.limits.actors
  pub cases : file.limits.cases ≤ held.limits.cases
  pub migrations : file.limits.migrations ≤ held.limits.migrations
  pub lines : held.counts.lines ≤ file.counts.lines
  pub installs : held.counts.installs ≤ file.counts.installs
  pub migrated : held.counts.migrations ≤ file.counts.migrations
  pub phases : length held.phases ≤ length file.phases
  pub opened : opens held.current ≤ opens file.current
  pub deeds : deeds file ≡ before ++ deeds held

-- ---- states and steps
abbrev pub renumbered : (at order : ℕ) → Group → Group
renumbered at order g = record g { at = at; order = order }

abbrev pub SamePlace : Section → Section → Type 0
SamePlace section.Outside section.Outside = Unit {0}
SamePlace (section.InType d) (section.InType e) = e ≡ d
SamePlace (section.InGroup g) (section.InGroup h) = h ≡ renumbered h.at h.order g
SamePlace _ _ = ⊥

abbrev pub SameState : List (ℕ × Act) → State → State → Type 0
SameState before s t = SamePlace s.place t.place × (t.contents ≡ but_for (rest_of t.contents) s.contents) × Within before (rest_of s.contents) (rest_of t.contents)

-- names by which a refusal is told
abbrev pub SameNames : Contents → Contents → Type 0
SameNames c d = (d.nodes ≡ c.nodes) × (d.elements ≡ c.elements)

abbrev pub SameRefusal : Why × Contents → Why × Contents → Type 0
SameRefusal p q = (q.0 ≡ p.0) × SameNames p.1 q.1

-- a line is refused in both for the same reason, or taken in both; or in the file a limit cuts it off
abbrev pub Follows : List (ℕ × Act) → (file held : Step) → Type 0
Follows before (Ok s) (Ok t) = SameState before s t
Follows before (Ok s) (Err q) = ⊥
Follows before (Err p) (Ok t) = IsOfFile p.0
Follows before (Err p) (Err q) = IsOfFile p.0 ⊎ SameRefusal p q

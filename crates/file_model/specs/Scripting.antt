-- Lines of a phase.
use Rattle.std.specs.{Prelude.{ℕ, ◌+◌, List, [], ◌∷◌, nat_lt, nat_le, slice_get, Option, Some, None, option_map}, Option.option_or}
use Rattle.wsm_lists.specs.declared.values.Value.{Value}
use Rattle.wsm_sound.specs.declared.versions.CaseId.{CaseId}
use Rattle.file_limits.specs.declared.TheConstants.{MAX_INSTALLS, MAX_LINES}
use Rattle.file_words.specs.Lines.{Bytes}
use Rattle.file_names.specs.Names.{place_of}
use Rattle.file_forms.specs.{PieceForms.◌>>=◌, Forms.{Deed, to_create, to_start, to_withdraw, to_end, to_change, to_install, to_migrate, ScriptLine, next_phase, a_deed}}
use Rattle.file_model.specs.{Steps.{State, Step, at_place, outside, refuse, unless, over, node_in, with_node, element_in, with_element, with_script_line}, Declaring.phase_begun, CaseCounts.cases_of_type, declared.files.Line.Line}
use Rattle.file_model.specs.{declared.files.Act.Act, declared.states.Contents.Contents, declared.states.Target.Target}
use Rattle.file_model.specs.declared.files.Act.TheVariants as act
use Rattle.file_model.specs.declared.refusals.FileLimit.TheVariants as limit
use Rattle.file_model.specs.declared.refusals.Why.TheVariants as why
use Rattle.file_model.specs.declared.states.Target.TheVariants as target
use Rattle.file_model.specs.declared.states.Section.TheVariants as section

-- the case with a name
abbrev pub case_in : Bytes → Contents → Option CaseId
case_in n c = place_of c.cases.names n >>= λ i. option_map (λ d. d.id) (slice_get c.cases.items i)

-- one more script line
abbrev pub counted : Contents → Contents
counted c = record c { counts = record c.counts { lines = c.counts.lines + 1 } }

abbrev pub line_of : ℕ → ℕ → Act → Contents → Line
line_of at actor a c = record { at = at; order = c.counts.lines + 1; actor = actor; act = a }

-- a script line of its own behind others of its phase
abbrev pub with_line : ℕ → ℕ → Act → Contents → Step
with_line at actor a c =
    unless (over (nat_le MAX_LINES c.counts.lines) limit.Lines) c (outside (with_script_line (line_of at actor a c) (counted c)))

-- the state in which the operations of a group are read
abbrev pub with_group : ℕ → ℕ → Target → Contents → State
with_group at actor t c =
    at_place (section.InGroup (record { at = at; order = c.counts.lines + 1; actor = actor; target = t; ops = [] })) (counted c)

abbrev pub changing : ℕ → ℕ → CaseId → Contents → Step
changing at actor id c =
    unless (over (nat_le MAX_LINES c.counts.lines) limit.Lines) c (with_group at actor (target.Case id) c)

abbrev pub one_install : Contents → Contents
one_install c = record c { counts = record c.counts { installs = c.counts.installs + 1 } }

abbrev pub installing : ℕ → ℕ → ℕ → Contents → Step
installing at actor t c =
    unless (option_or (over (nat_le MAX_LINES c.counts.lines) limit.Lines) (over (nat_le MAX_INSTALLS c.counts.installs) limit.Installs)) c
    (with_group at actor (target.«Type» t) (one_install c))

-- the migrations so far with those of a type
abbrev pub migrations_with : ℕ → Contents → ℕ
migrations_with t c = c.counts.migrations + cases_of_type t c.cases.items

-- a migrate calls the cases of its type that were declared before it
abbrev pub migrate_of : ℕ → Contents → Act
migrate_of t c = act.Migrate t (cases_of_type t c.cases.items)

abbrev pub migrating : ℕ → ℕ → ℕ → Contents → Step
migrating at actor t c =
    unless (option_or (over (nat_le MAX_LINES c.counts.lines) limit.Lines) (over (nat_lt c.limits.migrations (migrations_with t c)) limit.Migrations)) c
    (outside (with_script_line (line_of at actor (migrate_of t c) c) (counted (record c { counts = record c.counts { migrations = migrations_with t c } }))))

-- writes with the numbers of their elements, and the contents with their names
abbrev pub with_elements : List (Bytes × Value) → Contents → Contents
with_elements [] c = c
with_elements (w ∷ ws) c = with_elements ws (with_element w.0 c)

abbrev pub numbered : List (Bytes × Value) → Contents → List (ℕ × Value)
numbered [] c = []
numbered (w ∷ ws) c = (element_in w.0 c, w.1) ∷ numbered ws (with_element w.0 c)

abbrev pub if_known : {A : Type 0} → Option A → (A → Step) → Contents → Step
if_known None go c = refuse c why.Unknown
if_known (Some x) go c = go x

abbrev pub acted : Deed → ℕ → ℕ → Contents → Step
acted (to_create n) actor at c = if_known (case_in n c) (λ id. with_line at actor (act.Create id) c) c
acted (to_start n node) actor at c =
    if_known (case_in n c) (λ id. with_line at actor (act.Start id (node_in node c)) (with_node node c)) c
acted (to_withdraw n node) actor at c =
    if_known (case_in n c) (λ id. with_line at actor (act.Withdraw id (node_in node c)) (with_node node c)) c
acted (to_end n node choice writes) actor at c =
    if_known (case_in n c) (λ id.
    let c1 = with_node node c in
    with_line at actor (act.End id (node_in node c) choice (numbered writes c1)) (with_elements writes c1)) c
acted (to_change n) actor at c = if_known (case_in n c) (λ id. changing at actor id c) c
acted (to_install n) actor at c = if_known (place_of c.types.names n) (λ t. installing at actor t c) c
acted (to_migrate n) actor at c = if_known (place_of c.types.names n) (λ t. migrating at actor t c) c

-- the act of an actor that was declared
abbrev pub acted_by : Option ℕ → Deed → ℕ → Contents → Step
acted_by found d at c = if_known found (λ actor. acted d actor at c) c

-- actors are numbered from 1
abbrev pub actor_in : Bytes → Contents → Option ℕ
actor_in a c = option_map (λ i. i + 1) (place_of c.actors.names a)

abbrev pub scripted : ScriptLine → ℕ → Contents → Step
scripted next_phase at c = phase_begun c
scripted (a_deed a d) at c = acted_by (actor_in a c) d at c

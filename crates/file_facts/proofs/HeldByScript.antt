-- What holds behind lines of a phase and of a group.
use Rattle.file_facts.proofs.Common.{[], ℕ, ◌++◌, ◌+◌, ◌<◌, ◌∷◌, ◌≡◌, ◌≤◌, a_deed, Act, act_of, acted, actor_in, and_from, arith, at_head, at_place, behind, Bytes, case_in, CaseDecl, CaseId, changing, conditional, Contents, counted, Deed}
use Rattle.file_facts.proofs.Common.{delete, element, eq-eqb, false, Group, group_end, grouped, has_id, insert, installing, IsDeclared, IsKnownAct, leb-false, length, length_push, Line, line_of, line_of_group, List, migrate_of, migrating}
use Rattle.file_facts.proofs.Common.{migrations_with, move, NamedGap, nat_le, next_phase, node_in, None, numbered, one_install, Op, op_in, open_lines, operated, OperationLine, Option, option_map, parallel, place_of, read, refl, rows-append}
use Rattle.file_facts.proofs.Common.{same_Some, scripted, ScriptLine, set_role, slice_get, Some, sync, Target, to_change, to_create, to_end, to_install, to_migrate, to_start, to_withdraw, true, unread, unsync, unwrite, Value, with_element}
use Rattle.file_facts.proofs.{Common.{with_elements, with_group, with_line, with_names, with_node, with_op, with_place, with_script_line, write}, Held.{Script, KnownIn, HeldState, HeldStep, unless-held, found-held, not_over, neither}}
use Rattle.file_facts.proofs.{HeldByDeclarations.begun-held, Lists.{any-at, place_within}}
use Rattle.file_forms.specs.PieceForms.{◌>>=◌}
use Rattle.file_model.specs.declared.files.Act.TheVariants as act
use Rattle.file_model.specs.declared.refusals.FileLimit.TheVariants as limit
use Rattle.file_model.specs.declared.states.Target.TheVariants as target
use Rattle.file_model.specs.declared.states.Section.TheVariants as section

-- ---- what is found was declared
own_id : (d : CaseDecl) → has_id d.id d ≡ true
own_id d = and_from _ _ (eq-eqb d.id.type_no d.id.type_no refl) (eq-eqb d.id.place d.id.place refl)

id_of : (cases : List CaseDecl) (i : ℕ) (o : Option CaseDecl) (id : CaseId) → slice_get cases i ≡ o → option_map (λ d. d.id) o ≡ Some id → IsDeclared id cases
id_of cases i None id at is = absurd (cc)
id_of cases i (Some d) id at is = let same : d.id ≡ id = same_Some d.id id is in rw (← same) (any-at (has_id d.id) cases i d at (own_id d))

found_case : (cases : List CaseDecl) (o : Option ℕ) (id : CaseId) → (o >>= λ i. option_map (λ d. d.id) (slice_get cases i)) ≡ Some id → IsDeclared id cases
found_case cases None id is = absurd (cc)
found_case cases (Some i) id is = id_of cases i (slice_get cases i) id refl is

case-known : (n : Bytes) (c : Contents) (id : CaseId) → case_in n c ≡ Some id → IsDeclared id c.cases.items
case-known n c id is = found_case c.cases.items (place_of c.cases.names n) id is

type-known : (n : Bytes) (begun : ℕ) (c : Contents) (t : ℕ) → place_of c.types.names n ≡ Some t → Script c begun → t < length c.types.items
type-known n begun c t is h =
    let within = place_within c.types.names n t is in
    let names = h.declared.type_names in
    omega (arith, within, names)

-- actors are numbered from 1
abbrev IsActor : ℕ → Contents → Type 0
IsActor a c = (1 ≤ a) × (a ≤ length c.actors.items)

next_number : (o : Option ℕ) (a m : ℕ) → ((i : ℕ) → o ≡ Some i → i < m) → option_map (λ i. i + 1) o ≡ Some a → (1 ≤ a) × (a ≤ m)
next_number None a m below is = absurd (cc)
next_number (Some i) a m below is =
    let same : i + 1 ≡ a = same_Some (i + 1) a is in
    let within = below i refl in
    (omega (arith, same), omega (arith, same, within))

actor-known : (n : Bytes) (begun : ℕ) (c : Contents) (a : ℕ) → actor_in n c ≡ Some a → Script c begun → IsActor a c
actor-known n begun c a is h =
    next_number (place_of c.actors.names n) a (length c.actors.items)
    (λ i at. let within = place_within c.actors.names n i at in let names = h.declared.actor_names in omega (arith, within, names)) is

-- ---- one line more
line-added : (l : Line) (c : Contents) → KnownIn c l → nat_le 60000 c.counts.lines ≡ false → Script c 0 → Script (with_script_line l (counted c)) 0
line-added l c known below h = record {
  declared = h.declared;
  within = omega (arith, leb-false 60000 c.counts.lines below);
  all_counted = let before = h.all_counted in omega (arith, before, length_push (open_lines c.current) l);
  known_phases = h.known_phases;
  known_lines = rows-append (KnownIn c) (open_lines c.current) (l ∷ []) h.known_lines (known, tt);
}

line-begun : (c : Contents) → nat_le 60000 c.counts.lines ≡ false → Script c 0 → Script (counted c) 1
line-begun c below h = record {
  declared = h.declared;
  within = omega (arith, leb-false 60000 c.counts.lines below);
  all_counted = let before = h.all_counted in omega (arith, before);
  known_phases = h.known_phases;
  known_lines = h.known_lines;
}

line-ended : (l : Line) (c : Contents) → KnownIn c l → Script c 1 → Script (with_script_line l c) 0
line-ended l c known h = record {
  declared = h.declared;
  within = h.within;
  all_counted = let before = h.all_counted in omega (arith, before, length_push (open_lines c.current) l);
  known_phases = h.known_phases;
  known_lines = rows-append (KnownIn c) (open_lines c.current) (l ∷ []) h.known_lines (known, tt);
}

-- ---- lines of a phase
with_line-held : (at actor : ℕ) (a : Act) (c : Contents) → IsActor actor c → IsKnownAct (length c.types.items) c.cases.items a → Script c 0 → HeldStep (with_line at actor a c)
with_line-held at actor a c is known h =
    unless-held _ c _ (λ none.
    line-added (line_of at actor a c) c (record { from_1 = is.0; actor = is.1; act = known }) (not_over _ limit.Lines none) h)

abbrev TargetKnown : Target → Contents → Type 0
TargetKnown (target.Case id) c = IsDeclared id c.cases.items
TargetKnown (target.«Type» t) c = t < length c.types.items

-- the act of a group that has so few operations
act-known : (t : Target) (ops : List Op) (c : Contents) → TargetKnown t c → length ops ≤ 256 → IsKnownAct (length c.types.items) c.cases.items (act_of t ops)
act-known (target.Case id) ops c known few = (known, few)
act-known (target.«Type» t) ops c known few = (known, few)

target-known : (t : Target) (ops : List Op) (c : Contents) → IsKnownAct (length c.types.items) c.cases.items (act_of t ops) → TargetKnown t c
target-known (target.Case id) ops c known = known.0
target-known (target.«Type» t) ops c known = known.0

with_group-held : (at actor : ℕ) (t : Target) (c : Contents) → IsActor actor c → TargetKnown t c → nat_le 60000 c.counts.lines ≡ false → Script c 0 → HeldState (with_group at actor t c)
with_group-held at actor t c is known below h =
    (line-begun c below h, record { from_1 = is.0; actor = is.1; act = act-known t [] c known (omega arith) })

changing-held : (at actor : ℕ) (id : CaseId) (c : Contents) → IsActor actor c → IsDeclared id c.cases.items → Script c 0 → HeldStep (changing at actor id c)
changing-held at actor id c is known h =
    unless-held _ c _ (λ none. with_group-held at actor (target.Case id) c is known (not_over _ limit.Lines none) h)

installing-held : (at actor t : ℕ) (c : Contents) → IsActor actor c → t < length c.types.items → Script c 0 → HeldStep (installing at actor t c)
installing-held at actor t c is known h =
    unless-held _ c _ (λ none. with_group-held at actor (target.«Type» t) (one_install c) is known (not_over _ limit.Lines (neither _ _ none).0) h)

migrating-held : (at actor t : ℕ) (c : Contents) → IsActor actor c → t < length c.types.items → Script c 0 → HeldStep (migrating at actor t c)
migrating-held at actor t c is known h =
    unless-held _ c _ (λ none.
    line-added (line_of at actor (migrate_of t c) c) (record c { counts = record c.counts { migrations = migrations_with t c } })
    (record { from_1 = is.0; actor = is.1; act = (known, omega arith) }) (not_over _ limit.Lines (neither _ _ none).0) h)

elements-held : (ws : List (Bytes × Value)) (actor : ℕ) (id : CaseId) (c : Contents) →
    IsActor actor c → IsDeclared id c.cases.items → Script c 0 →
    IsActor actor (with_elements ws c) × IsDeclared id (with_elements ws c).cases.items × Script (with_elements ws c) 0
elements-held [] actor id c is known h = (is, known, h)
elements-held (w ∷ ws) actor id c is known h = elements-held ws actor id (with_element w.0 c) is known h

acted-held : (d : Deed) (actor at : ℕ) (c : Contents) → IsActor actor c → Script c 0 → HeldStep (acted d actor at c)
acted-held (to_create n) actor at c is h = found-held (case_in n c) _ c (λ id found. with_line-held at actor (act.Create id) c is (case-known n c id found) h)
acted-held (to_start n node) actor at c is h =
    found-held (case_in n c) _ c (λ id found. with_line-held at actor (act.Start id (node_in node c)) (with_node node c) is (case-known n c id found) h)
acted-held (to_withdraw n node) actor at c is h =
    found-held (case_in n c) _ c (λ id found. with_line-held at actor (act.Withdraw id (node_in node c)) (with_node node c) is (case-known n c id found) h)
acted-held (to_end n node choice writes) actor at c is h =
    let c1 = with_node node c in
    found-held (case_in n c) _ c (λ id found.
    let k = elements-held writes actor id c1 is (case-known n c id found) h in
    with_line-held at actor (act.End id (node_in node c) choice (numbered writes c1)) (with_elements writes c1) k.0 k.1 k.2)
acted-held (to_change n) actor at c is h = found-held (case_in n c) _ c (λ id found. changing-held at actor id c is (case-known n c id found) h)
acted-held (to_install n) actor at c is h =
    found-held (place_of c.types.names n) _ c (λ t found. installing-held at actor t c is (type-known n 0 c t found h) h)
acted-held (to_migrate n) actor at c is h =
    found-held (place_of c.types.names n) _ c (λ t found. migrating-held at actor t c is (type-known n 0 c t found h) h)

pub scripted-held : (l : ScriptLine) (at : ℕ) (c : Contents) → Script c 0 → HeldStep (scripted l at c)
scripted-held next_phase at c h = begun-held c h
scripted-held (a_deed a d) at c h = found-held (actor_in a c) _ c (λ actor found. acted-held d actor at c (actor-known a 0 c actor found h) h)

-- ---- lines of a group
abbrev InGroup : Group → Contents → Type 0
InGroup g c = Script c 1 × KnownIn c (line_of_group g)

place-held : (p : NamedGap) (g : Group) (c : Contents) → InGroup g c → InGroup g (with_place p c)
place-held (behind n) g c h = h
place-held (at_head n code) g c h = h

names-held : (l : OperationLine) (g : Group) (c : Contents) → InGroup g c → InGroup g (with_names l c)
names-held (insert n r p) g c h = place-held p g (with_node n c) h
names-held (parallel n r s j a b) g c h = h
names-held (conditional n r s j p) g c h = place-held p g (with_node j (with_node s (with_node n c))) h
names-held (delete n) g c h = h
names-held (move n p) g c h = place-held p g (with_node n c) h
names-held (sync a b) g c h = h
names-held (unsync a b) g c h = h
names-held (element e k) g c h = h
names-held (read n e m) g c h = h
names-held (unread n e) g c h = h
names-held (write n e) g c h = h
names-held (unwrite n e) g c h = h
names-held (set_role n r) g c h = h
names-held group_end g c h = h

-- one operation more, while there are fewer than 256
op-known : (o : Op) (g : Group) (c : Contents) → length g.ops < 256 → KnownIn c (line_of_group g) → KnownIn c (line_of_group (with_op o g))
op-known o g c few h = record {
  from_1 = h.from_1;
  actor = h.actor;
  act = act-known g.target (g.ops ++ o ∷ []) c (target-known g.target g.ops c h.act) (omega (arith, few, length_push g.ops o));
}

grouped-held : (o : Option Op) (g : Group) (c : Contents) → InGroup g c → HeldStep (grouped o g c)
grouped-held None g c h = line-ended (line_of_group g) c h.1 h.0
grouped-held (Some o) g c h =
    unless-held _ c (at_place (section.InGroup (with_op o g)) c) (λ none. (h.0, op-known o g c (leb-false 256 (length g.ops) (not_over _ limit.Ops none)) h.1))

pub operated-held : (l : OperationLine) (g : Group) (c : Contents) → Script c 1 → KnownIn c (line_of_group g) → HeldStep (operated l g c)
operated-held l g c h known = grouped-held (op_in l c) g (with_names l c) (names-held l g c (h, known))

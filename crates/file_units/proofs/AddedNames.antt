-- A line adds no more names than it has words.
use Rattle.file_units.proofs.Common.{[], ℕ, ◌++◌, ◌+◌, ◌∷◌, ◌≡◌, ◌≤◌, a_case, a_deed, a_read, a_sync, a_type, a_write, acted, activity, actor_in, an_actor, an_element, arith, around, at_head, at_place, behind, Bool, Bytes, case_declared}
use Rattle.file_units.proofs.Common.{case_in, closes_block, conditional, Contents, count_of_names, Declaration, declaration_line, declared, declares, Deed, delete, Draft, element, ended, Err, false, Fault, fault_of, first_long, first_phase}
use Rattle.file_units.proofs.Common.{fits_in, fitting, formed, Group, group_end, grouped, header, if_known, IfSome, if◌then◌else◌, in_format, insert, is_listed, is_utf8, length, length-append, List, move, NamedGap, nat_le, next_phase, None}
use Rattle.file_units.proofs.Common.{noted, Ok, Op, op_in, opens_and, opens_branch, opens_loop, opens_xor, operated, operation_line, OperationLine, Option, outside, parallel, phase_begun, place_of, read, role_numbers, SchemaModel}
use Rattle.file_units.proofs.Common.{script_line, scripted, ScriptLine, Section, set_role, Some, State, Step, step_in, step_outside, subst, sync, to_change, to_create, to_end, to_install, to_migrate, to_start, to_withdraw, TooLong, true}
use Rattle.file_units.proofs.Common.{type_end, type_line, typed, TypeLine, unless, unless_long, unless_not_text, unread, unsync, unwrite, Value, whole, Why, with_actor, with_case, with_element, with_elements, with_names, with_node}
use Rattle.file_units.proofs.Common.{with_place, with_roles, write}
use Rattle.file_model.specs.declared.states.Section.TheVariants as section
use Rattle.file_model.proofs.Grown.{Grown, GrownStep, element_grown, node_grown, role_grown, roles_grown}
use Rattle.file_units.proofs.FewNames.{names_in_declaration, names_in_type_line, names_in_deed, names_in_script_line, names_in_operation, declaration-names, type_line-names, script_line-names, operation-names}

-- ---- names
noted-one : (names : List Bytes) (n : Bytes) → length (noted names n) ≤ length names + 1
noted-one names n = by (is_listed n names)
  where
    by : (test : Bool) → length (if test then names else names ++ n ∷ []) ≤ length names + 1
    by true = omega arith
    by false = omega (arith, length-append names (n ∷ []))

two-nodes : (a b : Bytes) (c : Contents) → Grown 2 c (with_node b (with_node a c))
two-nodes a b c = omega (arith, node_grown a c, node_grown b (with_node a c))

edge-added : (n e : Bytes) (c : Contents) → Grown 2 c (with_element e (with_node n c))
edge-added n e c = omega (arith, node_grown n c, element_grown e (with_node n c))

-- ---- a state behind tests
unless-adds : (n : ℕ) (first : Contents) (o : Option Why) (c : Contents) (s : State) → Grown n first s.contents → GrownStep n first (unless o c s)
unless-adds n first None c s h = h
unless-adds n first (Some w) c s h = tt

known-adds : {A : Type 0} (n : ℕ) (first : Contents) (o : Option A) (go : A → Step) (c : Contents) → ((x : A) → GrownStep n first (go x)) → GrownStep n first (if_known o go c)
known-adds n first None go c h = tt
known-adds n first (Some x) go c h = h x

-- ---- declarations
case-adds : (n : Bytes) (t : Option ℕ) (c : Contents) → GrownStep 1 c (case_declared n t c)
case-adds n None c = tt
case-adds n (Some t) c = unless-adds 1 c _ c (outside (with_case n t c)) (omega (arith, noted-one c.cases.names n))

begun-adds : (c : Contents) → GrownStep 0 c (phase_begun c)
begun-adds c = unless-adds 0 c _ c _ (omega arith)

declared-adds : (d : Declaration) (c : Contents) → GrownStep (names_in_declaration d) c (declared d c)
declared-adds (a_type n) c = unless-adds 0 c _ c _ (omega arith)
declared-adds (an_actor n roles) c =
    unless-adds (length roles + 1) c _ c (outside (with_actor n (role_numbers c.roles roles) (with_roles roles c)))
    (omega (arith, noted-one c.actors.names n, roles_grown roles c))
declared-adds (a_case n kind) c = case-adds n (place_of c.types.names kind) c
declared-adds first_phase c = begun-adds c

-- ---- lines of a type
ended-adds : (n : Bytes) (s : SchemaModel) (f : Option Fault) (c : Contents) → GrownStep 1 c (ended n s f c)
ended-adds n s None c = omega (arith, noted-one c.types.names n)
ended-adds n s (Some f) c = tt

typed-adds : (l : TypeLine) (d : Draft) (c : Contents) → GrownStep (names_in_type_line l) c (typed l d c)
typed-adds (activity n role) d c = omega (arith, node_grown n c, role_grown role (with_node n c))
typed-adds (opens_and a b) d c = unless-adds 2 c _ c _ (two-nodes a b c)
typed-adds (opens_xor a b role) d c = unless-adds 3 c _ c _ (omega (arith, two-nodes a b c, role_grown role (with_node b (with_node a c))))
typed-adds (opens_branch code) d c = omega arith
typed-adds (opens_loop a b role) d c = unless-adds 3 c _ c _ (omega (arith, two-nodes a b c, role_grown role (with_node b (with_node a c))))
typed-adds closes_block d c = omega arith
typed-adds (a_sync a b) d c = unless-adds 2 c _ (with_node b (with_node a c)) _ (two-nodes a b c)
typed-adds (an_element e k) d c = unless-adds 1 c _ (with_element e c) _ (element_grown e c)
typed-adds (a_read n e mandatory) d c = unless-adds 2 c _ (with_element e (with_node n c)) _ (edge-added n e c)
typed-adds (a_write n e) d c = unless-adds 2 c _ (with_element e (with_node n c)) _ (edge-added n e c)
typed-adds type_end d c = ended-adds d.name (whole d) (fault_of (whole d)) c

-- ---- lines of a phase
elements-add : (ws : List (Bytes × Value)) (c : Contents) → Grown (length ws) c (with_elements ws c)
elements-add [] c = omega arith
elements-add (w ∷ ws) c = omega (arith, element_grown w.0 c, elements-add ws (with_element w.0 c))

acted-adds : (d : Deed) (actor at : ℕ) (c : Contents) → GrownStep (names_in_deed d) c (acted d actor at c)
acted-adds (to_create n) actor at c = known-adds 0 c (case_in n c) _ c (λ id. unless-adds 0 c _ c _ (omega arith))
acted-adds (to_start n node) actor at c = known-adds 1 c (case_in n c) _ c (λ id. unless-adds 1 c _ (with_node node c) _ (node_grown node c))
acted-adds (to_withdraw n node) actor at c = known-adds 1 c (case_in n c) _ c (λ id. unless-adds 1 c _ (with_node node c) _ (node_grown node c))
acted-adds (to_end n node choice writes) actor at c =
    let c1 = with_node node c in
    known-adds (length writes + 1) c (case_in n c) _ c
    (λ id. unless-adds (length writes + 1) c _ (with_elements writes c1) _ (omega (arith, node_grown node c, elements-add writes c1)))
acted-adds (to_change n) actor at c = known-adds 0 c (case_in n c) _ c (λ id. unless-adds 0 c _ c _ (omega arith))
acted-adds (to_install n) actor at c = known-adds 0 c (place_of c.types.names n) _ c (λ t. unless-adds 0 c _ c _ (omega arith))
acted-adds (to_migrate n) actor at c = known-adds 0 c (place_of c.types.names n) _ c (λ t. unless-adds 0 c _ c _ (omega arith))

scripted-adds : (l : ScriptLine) (at : ℕ) (c : Contents) → GrownStep (names_in_script_line l) c (scripted l at c)
scripted-adds next_phase at c = begun-adds c
scripted-adds (a_deed a d) at c = known-adds (names_in_deed d) c (actor_in a c) _ c (λ actor. acted-adds d actor at c)

-- ---- lines of a group
place-adds : (p : NamedGap) (c : Contents) → Grown 1 c (with_place p c)
place-adds (behind n) c = node_grown n c
place-adds (at_head n code) c = node_grown n c

names-add : (l : OperationLine) (c : Contents) → Grown (names_in_operation l) c (with_names l c)
names-add (insert n r p) c = omega (arith, node_grown n c, place-adds p (with_node n c), role_grown r (with_place p (with_node n c)))
names-add (parallel n r s j a b) c =
    let c1 = with_node n c in
    let c3 = with_node j (with_node s c1) in
    omega (arith, node_grown n c, two-nodes s j c1, two-nodes a b c3, role_grown r (with_node b (with_node a c3)))
names-add (conditional n r s j p) c =
    let c1 = with_node n c in
    let c3 = with_node j (with_node s c1) in
    omega (arith, node_grown n c, two-nodes s j c1, place-adds p c3, role_grown r (with_place p c3))
names-add (delete n) c = node_grown n c
names-add (move n p) c = omega (arith, node_grown n c, place-adds p (with_node n c))
names-add (sync a b) c = two-nodes a b c
names-add (unsync a b) c = two-nodes a b c
names-add (element e k) c = element_grown e c
names-add (read n e m) c = edge-added n e c
names-add (unread n e) c = edge-added n e c
names-add (write n e) c = edge-added n e c
names-add (unwrite n e) c = edge-added n e c
names-add (set_role n r) c = omega (arith, node_grown n c, role_grown r (with_node n c))
names-add group_end c = omega arith

grouped-adds : (n : ℕ) (first : Contents) (o : Option Op) (g : Group) (c : Contents) → Grown n first c → GrownStep n first (grouped o g c)
grouped-adds n first None g c h = h
grouped-adds n first (Some o) g c h = unless-adds n first _ c _ h

operated-adds : (l : OperationLine) (g : Group) (c : Contents) → GrownStep (names_in_operation l) c (operated l g c)
operated-adds l g c = grouped-adds (names_in_operation l) c (op_in l c) g (with_names l c) (names-add l c)

-- ---- a line
wider : (n m : ℕ) (c : Contents) (o : Step) → n ≤ m → GrownStep n c o → GrownStep m c o
wider n m c (Ok s) few h = omega (arith, few, h)
wider n m c (Err p) few h = tt

long-adds : (n : ℕ) (l : Option TooLong) (c : Contents) (s : Step) → GrownStep n c s → GrownStep n c (unless_long l c s)
long-adds n None c s h = h
long-adds n (Some l) c s h = tt

formed-adds : {F : Type 0} (n : ℕ) (count : F → ℕ) (o : Option F) (ws : List Bytes) (go : F → Step) (c : Contents) → IfSome o (λ f. count f ≤ n)
    → ((f : F) → GrownStep (count f) c (go f)) → GrownStep n c (formed o ws go c)
formed-adds n count None ws go c few h = tt
formed-adds n count (Some f) ws go c few h = long-adds n (first_long ws) c (go f) (wider (count f) n c (go f) few (h f))

text-adds : (n : ℕ) (test : Bool) (c : Contents) (s : Step) → GrownStep n c s → GrownStep n c (unless_not_text test c s)
text-adds n true c s h = h
text-adds n false c s h = tt

if-adds : (n : ℕ) (test : Bool) (c : Contents) (s o : Step) → GrownStep n c s → GrownStep n c o → GrownStep n c (if test then s else o)
if-adds n true c s o h k = h
if-adds n false c s o h k = k

format-adds : (n newest : ℕ) (o : Option ℕ) (c : Contents) → GrownStep n c (in_format newest o c)
format-adds n newest None c = tt
format-adds n newest (Some f) c = if-adds n (nat_le f newest) c _ _ (omega arith) tt

fitting-names : (n : ℕ) (d : Draft) (o : Option TypeLine) → IfSome o (λ l. names_in_type_line l ≤ n) → IfSome (fitting d o) (λ l. names_in_type_line l ≤ n)
fitting-names n d None few = tt
fitting-names n d (Some l) few = by (fits_in (around d.frames) l)
  where
    by : (test : Bool) → IfSome (if test then Some l else None) (λ (k : TypeLine). names_in_type_line k ≤ n)
    by true = few
    by false = tt

outside-adds : (at : ℕ) (ws : List Bytes) (c : Contents) → GrownStep (length ws) c (step_outside at ws c)
outside-adds at ws c =
    let n = length ws in
    if-adds n (declares ws c) c _ _
    (formed-adds n names_in_declaration (declaration_line c.format ws) ws (λ d. declared d c) c (declaration-names c.format ws) (λ d. declared-adds d c))
    (formed-adds n names_in_script_line (script_line c.format ws) ws (λ l. scripted l at c) c (script_line-names c.format ws) (λ l. scripted-adds l at c))

pub step_in-adds : (p : Section) (at : ℕ) (line : Bytes) (ws : List Bytes) (c : Contents) → GrownStep (length ws) c (step_in p at line ws c)
step_in-adds (section.Head newest) at line ws c = format-adds (length ws) newest (header ws) c
step_in-adds section.Outside at line ws c = text-adds (length ws) (is_utf8 line) c _ (outside-adds at ws c)
step_in-adds (section.InType d) at line ws c =
    let n = length ws in
    text-adds n (is_utf8 line) c _ (formed-adds n names_in_type_line (fitting d (type_line c.format ws)) ws (λ l. typed l d c) c
    (fitting-names n d (type_line c.format ws) (type_line-names c.format ws)) (λ l. typed-adds l d c))
step_in-adds (section.InGroup g) at line ws c =
    let n = length ws in
    text-adds n (is_utf8 line) c _ (formed-adds n names_in_operation (operation_line c.format ws) ws (λ l. operated l g c) c (operation-names c.format ws) (λ l. operated-adds l g c))

-- behind a line that is not refused
pub step-adds : (p next : Section) (at : ℕ) (line : Bytes) (ws : List Bytes) (c after : Contents) → step_in p at line ws c ≡ Ok (at_place next after) → count_of_names after ≤ count_of_names c + length ws
step-adds p next at line ws c after is = subst (λ (o : Step). GrownStep (length ws) c o) is (step_in-adds p at line ws c)

-- How many names a line adds: at most six, and one for each of its words.
use Rattle.file_model.proofs.Common.{[], ℕ, ◌++◌, ◌+◌, ◌∷◌, ◌≤◌, a_case, a_deed, a_read, a_sync, a_type, a_write, acted, activity, actor_in, an_actor, an_element, arith, at_head, behind, Bool, by_name, by_number, Bytes, case_declared}
use Rattle.file_model.proofs.Common.{case_in, closes_block, conditional, Contents, Declaration, declaration_line, declared, declares, Deed, delete, Draft, element, ended, Err, false, Fault, fault_of, first_long, first_phase, fitting}
use Rattle.file_model.proofs.Common.{formed, Group, group_end, grouped, header, if_known, IfOk, IfSome, if◌then◌else◌, in_format, insert, is_listed, is_utf8, length, length-append, List, move, NamedGap, nat_le, next_phase, None, noted, Ok}
use Rattle.file_model.proofs.Common.{Op, op_in, opens_and, opens_branch, opens_loop, opens_xor, operated, operation_line, OperationLine, Option, outside, parallel, phase_begun, place_of, read, role_noted, role_numbers, roles_noted}
use Rattle.file_model.proofs.Common.{RoleWord, SchemaModel, script_line, scripted, ScriptLine, Section, set_role, Some, State, Step, step_in, step_outside, sync, to_change, to_create, to_end, to_install, to_migrate, to_start, to_withdraw}
use Rattle.file_model.proofs.Common.{TooLong, true, type_end, type_line, typed, TypeLine, unless, unless_long, unless_not_text, unread, unsync, unwrite, Value, whole, Why, with_actor, with_case, with_element, with_elements, with_names}
use Rattle.file_model.proofs.Common.{with_node, with_place, with_role, with_roles, write}
use Rattle.file_forms.specs.NamesInForms.{roles_in, writes_in_deed, writes_in}
use Rattle.file_forms.proofs.FewWrites.{declaration-few, script_line-few}
use Rattle.file_model.specs.Room.{count_of_names}
use Rattle.file_model.specs.declared.states.Section.TheVariants as section

-- at most n names more
abbrev pub Grown : ℕ → Contents → Contents → Type 0
Grown n c after = count_of_names after ≤ count_of_names c + n

abbrev pub GrownStep : ℕ → Contents → Step → Type 0
GrownStep n c o = IfOk o (λ s. Grown n c s.contents)

-- ---- one name
noted-count : (names : List Bytes) (n : Bytes) → length (noted names n) ≤ length names + 1
noted-count names n = by (is_listed n names)
  where
    by : (test : Bool) → length (if test then names else names ++ n ∷ []) ≤ length names + 1
    by true = omega arith
    by false = omega (arith, length-append names (n ∷ []))

pub node_grown : (n : Bytes) (c : Contents) → Grown 1 c (with_node n c)
node_grown n c = omega (arith, noted-count c.nodes n)

pub element_grown : (e : Bytes) (c : Contents) → Grown 1 c (with_element e c)
element_grown e c = omega (arith, noted-count c.elements e)

role_noted-count : (names : List Bytes) (r : RoleWord) → length (role_noted names r) ≤ length names + 1
role_noted-count names (by_number n) = omega arith
role_noted-count names (by_name n) = noted-count names n

roles_noted-count : (names : List Bytes) (rs : List RoleWord) → length (roles_noted names rs) ≤ length names + length rs
roles_noted-count names [] = omega arith
roles_noted-count names (r ∷ rs) = omega (arith, role_noted-count names r, roles_noted-count (role_noted names r) rs)

pub role_grown : (r : RoleWord) (c : Contents) → Grown 1 c (with_role r c)
role_grown r c = omega (arith, role_noted-count c.roles r)

pub roles_grown : (rs : List RoleWord) (c : Contents) → Grown (length rs) c (with_roles rs c)
roles_grown rs c = omega (arith, roles_noted-count c.roles rs)

nodes-grown : (a b : Bytes) (c : Contents) → Grown 2 c (with_node b (with_node a c))
nodes-grown a b c = omega (arith, node_grown a c, node_grown b (with_node a c))

edge-grown : (n e : Bytes) (c : Contents) → Grown 2 c (with_element e (with_node n c))
edge-grown n e c = omega (arith, node_grown n c, element_grown e (with_node n c))

-- ---- a state behind tests
unless-grown : (n : ℕ) (first : Contents) (o : Option Why) (c : Contents) (s : State) → Grown n first s.contents → GrownStep n first (unless o c s)
unless-grown n first None c s h = h
unless-grown n first (Some w) c s h = tt

known-grown : {A : Type 0} (n : ℕ) (first : Contents) (o : Option A) (go : A → Step) (c : Contents) → ((x : A) → GrownStep n first (go x)) → GrownStep n first (if_known o go c)
known-grown n first None go c h = tt
known-grown n first (Some x) go c h = h x

-- ---- declarations
case-grown : (n : Bytes) (t : Option ℕ) (c : Contents) → GrownStep 1 c (case_declared n t c)
case-grown n None c = tt
case-grown n (Some t) c = unless-grown 1 c _ c (outside (with_case n t c)) (omega (arith, noted-count c.cases.names n))

begun-grown : (n : ℕ) (c : Contents) → GrownStep n c (phase_begun c)
begun-grown n c = unless-grown n c _ c _ (omega arith)

declared-grown : (d : Declaration) (c : Contents) → GrownStep (roles_in d + 1) c (declared d c)
declared-grown (a_type n) c = unless-grown 1 c _ c _ (omega arith)
declared-grown (an_actor n roles) c =
    unless-grown (length roles + 1) c _ c (outside (with_actor n (role_numbers c.roles roles) (with_roles roles c)))
    (omega (arith, noted-count c.actors.names n, roles_noted-count c.roles roles))
declared-grown (a_case n kind) c = case-grown n (place_of c.types.names kind) c
declared-grown first_phase c = begun-grown 1 c

-- ---- lines of a type
ended-grown : (n : Bytes) (s : SchemaModel) (f : Option Fault) (c : Contents) → GrownStep 3 c (ended n s f c)
ended-grown n s None c = omega (arith, noted-count c.types.names n)
ended-grown n s (Some f) c = tt

typed-grown : (l : TypeLine) (d : Draft) (c : Contents) → GrownStep 3 c (typed l d c)
typed-grown (activity n role) d c = omega (arith, node_grown n c, role_noted-count c.roles role)
typed-grown (opens_and a b) d c = unless-grown 3 c _ c _ (omega (arith, nodes-grown a b c))
typed-grown (opens_xor a b role) d c = unless-grown 3 c _ c _ (omega (arith, nodes-grown a b c, role_noted-count c.roles role))
typed-grown (opens_branch code) d c = omega arith
typed-grown (opens_loop a b role) d c = unless-grown 3 c _ c _ (omega (arith, nodes-grown a b c, role_noted-count c.roles role))
typed-grown closes_block d c = omega arith
typed-grown (a_sync a b) d c = unless-grown 3 c _ (with_node b (with_node a c)) _ (omega (arith, nodes-grown a b c))
typed-grown (an_element e k) d c = unless-grown 3 c _ (with_element e c) _ (omega (arith, element_grown e c))
typed-grown (a_read n e mandatory) d c = unless-grown 3 c _ (with_element e (with_node n c)) _ (omega (arith, edge-grown n e c))
typed-grown (a_write n e) d c = unless-grown 3 c _ (with_element e (with_node n c)) _ (omega (arith, edge-grown n e c))
typed-grown type_end d c = ended-grown d.name (whole d) (fault_of (whole d)) c

-- ---- lines of a phase
elements-grown : (ws : List (Bytes × Value)) (c : Contents) → Grown (length ws) c (with_elements ws c)
elements-grown [] c = omega arith
elements-grown (w ∷ ws) c = omega (arith, element_grown w.0 c, elements-grown ws (with_element w.0 c))

acted-grown : (d : Deed) (actor at : ℕ) (c : Contents) → GrownStep (writes_in_deed d + 1) c (acted d actor at c)
acted-grown (to_create n) actor at c = known-grown 1 c (case_in n c) _ c (λ id. unless-grown 1 c _ c _ (omega arith))
acted-grown (to_start n node) actor at c = known-grown 1 c (case_in n c) _ c (λ id. unless-grown 1 c _ (with_node node c) _ (node_grown node c))
acted-grown (to_withdraw n node) actor at c = known-grown 1 c (case_in n c) _ c (λ id. unless-grown 1 c _ (with_node node c) _ (node_grown node c))
acted-grown (to_end n node choice writes) actor at c =
    let c1 = with_node node c in
    known-grown (length writes + 1) c (case_in n c) _ c
    (λ id. unless-grown (length writes + 1) c _ (with_elements writes c1) _ (omega (arith, node_grown node c, elements-grown writes c1)))
acted-grown (to_change n) actor at c = known-grown 1 c (case_in n c) _ c (λ id. unless-grown 1 c _ c _ (omega arith))
acted-grown (to_install n) actor at c = known-grown 1 c (place_of c.types.names n) _ c (λ t. unless-grown 1 c _ c _ (omega arith))
acted-grown (to_migrate n) actor at c = known-grown 1 c (place_of c.types.names n) _ c (λ t. unless-grown 1 c _ c _ (omega arith))

scripted-grown : (l : ScriptLine) (at : ℕ) (c : Contents) → GrownStep (writes_in l + 1) c (scripted l at c)
scripted-grown next_phase at c = begun-grown 1 c
scripted-grown (a_deed a d) at c = known-grown (writes_in_deed d + 1) c (actor_in a c) _ c (λ actor. acted-grown d actor at c)

-- ---- lines of a group
place-grown : (p : NamedGap) (c : Contents) → Grown 1 c (with_place p c)
place-grown (behind n) c = node_grown n c
place-grown (at_head n code) c = node_grown n c

names-grown : (l : OperationLine) (c : Contents) → Grown 6 c (with_names l c)
names-grown (insert n r p) c = omega (arith, node_grown n c, place-grown p (with_node n c), role_grown r (with_place p (with_node n c)))
names-grown (parallel n r s j a b) c =
    let c1 = with_node n c in
    let c3 = with_node j (with_node s c1) in
    omega (arith, node_grown n c, nodes-grown s j c1, nodes-grown a b c3, role_noted-count c.roles r)
names-grown (conditional n r s j p) c =
    let c1 = with_node n c in
    let c3 = with_node j (with_node s c1) in
    omega (arith, node_grown n c, nodes-grown s j c1, place-grown p c3, role_grown r (with_place p c3))
names-grown (delete n) c = omega (arith, node_grown n c)
names-grown (move n p) c = omega (arith, node_grown n c, place-grown p (with_node n c))
names-grown (sync a b) c = omega (arith, nodes-grown a b c)
names-grown (unsync a b) c = omega (arith, nodes-grown a b c)
names-grown (element e k) c = omega (arith, element_grown e c)
names-grown (read n e m) c = omega (arith, edge-grown n e c)
names-grown (unread n e) c = omega (arith, edge-grown n e c)
names-grown (write n e) c = omega (arith, edge-grown n e c)
names-grown (unwrite n e) c = omega (arith, edge-grown n e c)
names-grown (set_role n r) c = omega (arith, node_grown n c, role_noted-count c.roles r)
names-grown group_end c = omega arith

grouped-grown : (n : ℕ) (first : Contents) (o : Option Op) (g : Group) (c : Contents) → Grown n first c → GrownStep n first (grouped o g c)
grouped-grown n first None g c h = h
grouped-grown n first (Some o) g c h = unless-grown n first _ c _ h

operated-grown : (l : OperationLine) (g : Group) (c : Contents) → GrownStep 6 c (operated l g c)
operated-grown l g c = grouped-grown 6 c (op_in l c) g (with_names l c) (names-grown l c)

-- ---- a line
wider : (n m : ℕ) (c : Contents) (o : Step) → n ≤ m → GrownStep n c o → GrownStep m c o
wider n m c (Ok s) few h = omega (arith, few, h)
wider n m c (Err p) few h = tt

long-grown : (n : ℕ) (l : Option TooLong) (c : Contents) (s : Step) → GrownStep n c s → GrownStep n c (unless_long l c s)
long-grown n None c s h = h
long-grown n (Some l) c s h = tt

formed-grown : {F : Type 0} (n : ℕ) (P : F → Type 0) (o : Option F) (ws : List Bytes) (go : F → Step) (c : Contents) → IfSome o P → ((f : F) → P f → GrownStep n c (go f)) →
    GrownStep n c (formed o ws go c)
formed-grown n P None ws go c is h = tt
formed-grown n P (Some f) ws go c is h = long-grown n (first_long ws) c (go f) (h f is)

text-grown : (n : ℕ) (test : Bool) (c : Contents) (s : Step) → GrownStep n c s → GrownStep n c (unless_not_text test c s)
text-grown n true c s h = h
text-grown n false c s h = tt

if-grown : (n : ℕ) (test : Bool) (c : Contents) (s o : Step) → GrownStep n c s → GrownStep n c o → GrownStep n c (if test then s else o)
if-grown n true c s o h k = h
if-grown n false c s o h k = k

format-grown : (n newest : ℕ) (o : Option ℕ) (c : Contents) → GrownStep n c (in_format newest o c)
format-grown n newest None c = tt
format-grown n newest (Some f) c = if-grown n (nat_le f newest) c _ _ (omega arith) tt

any : {F : Type 0} (o : Option F) → IfSome o (λ f. Unit {0})
any None = tt
any (Some f) = tt

outside-grown : (at : ℕ) (ws : List Bytes) (c : Contents) → GrownStep (length ws + 6) c (step_outside at ws c)
outside-grown at ws c =
    let n = length ws + 6 in
    if-grown n (declares ws c) c _ _
    (formed-grown n (λ d. roles_in d ≤ length ws) (declaration_line c.format ws) ws (λ d. declared d c) c (declaration-few c.format ws)
    (λ d few. wider (roles_in d + 1) n c (declared d c) (omega (arith, few)) (declared-grown d c)))
    (formed-grown n (λ l. writes_in l ≤ length ws) (script_line c.format ws) ws (λ l. scripted l at c) c (script_line-few c.format ws)
    (λ l few. wider (writes_in l + 1) n c (scripted l at c) (omega (arith, few)) (scripted-grown l at c)))

pub step_in-grown : (p : Section) (at : ℕ) (line : Bytes) (ws : List Bytes) (c : Contents) → GrownStep (length ws + 6) c (step_in p at line ws c)
step_in-grown (section.Head newest) at line ws c = format-grown (length ws + 6) newest (header ws) c
step_in-grown section.Outside at line ws c = text-grown (length ws + 6) (is_utf8 line) c _ (outside-grown at ws c)
step_in-grown (section.InType d) at line ws c =
    let n = length ws + 6 in
    text-grown n (is_utf8 line) c _ (formed-grown n (λ l. Unit {0}) (fitting d (type_line c.format ws)) ws (λ l. typed l d c) c (any (fitting d (type_line c.format ws)))
    (λ l any. wider 3 n c (typed l d c) (omega arith) (typed-grown l d c)))
step_in-grown (section.InGroup g) at line ws c =
    let n = length ws + 6 in
    text-grown n (is_utf8 line) c _ (formed-grown n (λ l. Unit {0}) (operation_line c.format ws) ws (λ l. operated l g c) c (any (operation_line c.format ws))
    (λ l any. wider 6 n c (operated l g c) (omega arith) (operated-grown l g c)))

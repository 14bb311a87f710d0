-- A line adds no name that is longer than a file keeps it.
use Rattle.file_units.proofs.Common.{[], ℕ, ◌++◌, ◌∷◌, ◌≡◌, a_case, a_deed, a_read, a_sync, a_type, a_write, acted, activity, actor_in, AllRows, an_actor, an_element, around, at_head, at_place, behind, Bool, by_name, by_number, Bytes}
use Rattle.file_units.proofs.Common.{case_declared, case_in, closes_block, conditional, Contents, Declaration, declaration_line, declared, declares, Deed, delete, Draft, element, ended, false, Fault, fault_of, first_long, first_phase}
use Rattle.file_units.proofs.Common.{fits_in, fitting, formed, Group, group_end, grouped, HasShortNames, header, if_known, IfOk, IfSome, in_format, insert, is_listed, is_utf8, IsShort, IsShortDeclaration, IsShortDeed, IsShortGap}
use Rattle.file_units.proofs.Common.{IsShortOperation, IsShortScriptLine, IsShortTypeLine, IsShortWrite, List, move, NamedGap, nat_le, next_phase, None, noted, Ok, Op, op_in, opens_and, opens_branch, opens_loop, opens_xor, operated}
use Rattle.file_units.proofs.Common.{operation_line, OperationLine, Option, outside, parallel, phase_begun, place_of, read, refl, role_noted, role_numbers, roles_noted, RoleWord, SchemaModel, script_line, scripted, ScriptLine, Section}
use Rattle.file_units.proofs.Common.{set_role, Some, State, Step, step_in, step_outside, subst, sync, to_change, to_create, to_end, to_install, to_migrate, to_start, to_withdraw, TooLong, true, type_end, type_line, typed, TypeLine, unless}
use Rattle.file_units.proofs.Common.{unless_long, unless_not_text, unread, unsync, unwrite, Value, whole, Why, with_actor, with_element, with_elements, with_names, with_node, with_place, with_role, with_roles, write}
use Rattle.std.proofs.Common.{if◌then◌else◌}
use Rattle.file_forms.specs.NamesInForms.{RoleHas}
use Rattle.file_forms.proofs.NamesInForms.{declaration-has, operation-has, script_line-has, type_line-has}
use Rattle.file_model.specs.declared.states.Section.TheVariants as section
use Rattle.file_model.proofs.ShortWords.{words-short}

abbrev pub ShortStep : Step → Type 0
ShortStep o = IfOk o (λ s. HasShortNames s.contents)

-- ---- names
last-short : (names : List Bytes) (n : Bytes) → AllRows IsShort names → IsShort n → AllRows IsShort (names ++ n ∷ [])
last-short [] n h short = (short, tt)
last-short (m ∷ ms) n h short = (h.0, last-short ms n h.1 short)

noted-short : (names : List Bytes) (n : Bytes) → AllRows IsShort names → IsShort n → AllRows IsShort (noted names n)
noted-short names n h short = by (is_listed n names)
  where
    by : (test : Bool) → AllRows IsShort (if test then names else names ++ n ∷ [])
    by true = h
    by false = last-short names n h short

role-short : (names : List Bytes) (r : RoleWord) → AllRows IsShort names → RoleHas IsShort r → AllRows IsShort (role_noted names r)
role-short names (by_number n) h short = h
role-short names (by_name n) h short = noted-short names n h short

roles-short : (names : List Bytes) (rs : List RoleWord) → AllRows IsShort names → AllRows (RoleHas IsShort) rs → AllRows IsShort (roles_noted names rs)
roles-short names [] h short = h
roles-short names (r ∷ rs) h short = roles-short (role_noted names r) rs (role-short names r h short.0) short.1

-- ---- contents
node-short : (n : Bytes) (c : Contents) → IsShort n → HasShortNames c → HasShortNames (with_node n c)
node-short n c short h = record { nodes = noted-short c.nodes n h.nodes short; elements = h.elements; roles = h.roles }

element-short : (e : Bytes) (c : Contents) → IsShort e → HasShortNames c → HasShortNames (with_element e c)
element-short e c short h = record { nodes = h.nodes; elements = noted-short c.elements e h.elements short; roles = h.roles }

with_role-short : (r : RoleWord) (c : Contents) → RoleHas IsShort r → HasShortNames c → HasShortNames (with_role r c)
with_role-short r c short h = record { nodes = h.nodes; elements = h.elements; roles = role-short c.roles r h.roles short }

with_roles-short : (rs : List RoleWord) (c : Contents) → AllRows (RoleHas IsShort) rs → HasShortNames c → HasShortNames (with_roles rs c)
with_roles-short rs c short h = record { nodes = h.nodes; elements = h.elements; roles = roles-short c.roles rs h.roles short }

nodes-short : (a b : Bytes) (c : Contents) → IsShort a → IsShort b → HasShortNames c → HasShortNames (with_node b (with_node a c))
nodes-short a b c one other h = node-short b (with_node a c) other (node-short a c one h)

edge-short : (n e : Bytes) (c : Contents) → IsShort n → IsShort e → HasShortNames c → HasShortNames (with_element e (with_node n c))
edge-short n e c one other h = element-short e (with_node n c) other (node-short n c one h)

-- ---- a state behind tests
unless-short : (o : Option Why) (c : Contents) (s : State) → HasShortNames s.contents → ShortStep (unless o c s)
unless-short None c s h = h
unless-short (Some w) c s h = tt

known-short : {A : Type 0} (o : Option A) (go : A → Step) (c : Contents) → ((x : A) → ShortStep (go x)) → ShortStep (if_known o go c)
known-short None go c h = tt
known-short (Some x) go c h = h x

-- ---- declarations
case-short : (n : Bytes) (t : Option ℕ) (c : Contents) → HasShortNames c → ShortStep (case_declared n t c)
case-short n None c h = tt
case-short n (Some t) c h = unless-short _ c _ h

begun-short : (c : Contents) → HasShortNames c → ShortStep (phase_begun c)
begun-short c h = unless-short _ c _ h

declared-short : (d : Declaration) (c : Contents) → IsShortDeclaration d → HasShortNames c → ShortStep (declared d c)
declared-short (a_type n) c short h = unless-short _ c _ h
declared-short (an_actor n roles) c short h =
    unless-short _ c (outside (with_actor n (role_numbers c.roles roles) (with_roles roles c))) (with_roles-short roles c short.1 h)
declared-short (a_case n kind) c short h = case-short n (place_of c.types.names kind) c h
declared-short first_phase c short h = begun-short c h

-- ---- lines of a type
ended-short : (n : Bytes) (s : SchemaModel) (f : Option Fault) (c : Contents) → HasShortNames c → ShortStep (ended n s f c)
ended-short n s None c h = h
ended-short n s (Some f) c h = tt

typed-short : (l : TypeLine) (d : Draft) (c : Contents) → IsShortTypeLine l → HasShortNames c → ShortStep (typed l d c)
typed-short (activity n role) d c short h = with_role-short role (with_node n c) short.1 (node-short n c short.0 h)
typed-short (opens_and a b) d c short h = unless-short _ c _ (nodes-short a b c short.0 short.1 h)
typed-short (opens_xor a b role) d c short h = unless-short _ c _ (with_role-short role (with_node b (with_node a c)) short.2 (nodes-short a b c short.0 short.1 h))
typed-short (opens_branch code) d c short h = h
typed-short (opens_loop a b role) d c short h = unless-short _ c _ (with_role-short role (with_node b (with_node a c)) short.2 (nodes-short a b c short.0 short.1 h))
typed-short closes_block d c short h = h
typed-short (a_sync a b) d c short h = unless-short _ (with_node b (with_node a c)) _ (nodes-short a b c short.0 short.1 h)
typed-short (an_element e k) d c short h = unless-short _ (with_element e c) _ (element-short e c short h)
typed-short (a_read n e mandatory) d c short h = unless-short _ (with_element e (with_node n c)) _ (edge-short n e c short.0 short.1 h)
typed-short (a_write n e) d c short h = unless-short _ (with_element e (with_node n c)) _ (edge-short n e c short.0 short.1 h)
typed-short type_end d c short h = ended-short d.name (whole d) (fault_of (whole d)) c h

-- ---- lines of a phase
elements-short : (ws : List (Bytes × Value)) (c : Contents) → AllRows IsShortWrite ws → HasShortNames c → HasShortNames (with_elements ws c)
elements-short [] c short h = h
elements-short (w ∷ ws) c short h = elements-short ws (with_element w.0 c) short.1 (element-short w.0 c (short.0).0 h)

acted-short : (d : Deed) (actor at : ℕ) (c : Contents) → IsShortDeed d → HasShortNames c → ShortStep (acted d actor at c)
acted-short (to_create n) actor at c short h = known-short (case_in n c) _ c (λ id. unless-short _ c _ h)
acted-short (to_start n node) actor at c short h = known-short (case_in n c) _ c (λ id. unless-short _ (with_node node c) _ (node-short node c short h))
acted-short (to_withdraw n node) actor at c short h = known-short (case_in n c) _ c (λ id. unless-short _ (with_node node c) _ (node-short node c short h))
acted-short (to_end n node choice writes) actor at c short h =
    let c1 = with_node node c in
    known-short (case_in n c) _ c (λ id. unless-short _ (with_elements writes c1) _ (elements-short writes c1 short.1 (node-short node c short.0 h)))
acted-short (to_change n) actor at c short h = known-short (case_in n c) _ c (λ id. unless-short _ c _ h)
acted-short (to_install n) actor at c short h = known-short (place_of c.types.names n) _ c (λ t. unless-short _ c _ h)
acted-short (to_migrate n) actor at c short h = known-short (place_of c.types.names n) _ c (λ t. unless-short _ c _ h)

scripted-short : (l : ScriptLine) (at : ℕ) (c : Contents) → IsShortScriptLine l → HasShortNames c → ShortStep (scripted l at c)
scripted-short next_phase at c short h = begun-short c h
scripted-short (a_deed a d) at c short h = known-short (actor_in a c) _ c (λ actor. acted-short d actor at c short h)

-- ---- lines of a group
place-short : (p : NamedGap) (c : Contents) → IsShortGap p → HasShortNames c → HasShortNames (with_place p c)
place-short (behind n) c short h = node-short n c short h
place-short (at_head n code) c short h = node-short n c short h

names-short : (l : OperationLine) (c : Contents) → IsShortOperation l → HasShortNames c → HasShortNames (with_names l c)
names-short (insert n r p) c short h = with_role-short r (with_place p (with_node n c)) short.1 (place-short p (with_node n c) short.2 (node-short n c short.0 h))
names-short (parallel n r s j a b) c short h =
    let c1 = with_node n c in
    let c3 = with_node j (with_node s c1) in
    with_role-short r (with_node b (with_node a c3)) short.1 (nodes-short a b c3 short.4 short.5 (nodes-short s j c1 short.2 short.3 (node-short n c short.0 h)))
names-short (conditional n r s j p) c short h =
    let c1 = with_node n c in
    let c3 = with_node j (with_node s c1) in
    with_role-short r (with_place p c3) short.1 (place-short p c3 short.4 (nodes-short s j c1 short.2 short.3 (node-short n c short.0 h)))
names-short (delete n) c short h = node-short n c short h
names-short (move n p) c short h = place-short p (with_node n c) short.1 (node-short n c short.0 h)
names-short (sync a b) c short h = nodes-short a b c short.0 short.1 h
names-short (unsync a b) c short h = nodes-short a b c short.0 short.1 h
names-short (element e k) c short h = element-short e c short h
names-short (read n e m) c short h = edge-short n e c short.0 short.1 h
names-short (unread n e) c short h = edge-short n e c short.0 short.1 h
names-short (write n e) c short h = edge-short n e c short.0 short.1 h
names-short (unwrite n e) c short h = edge-short n e c short.0 short.1 h
names-short (set_role n r) c short h = with_role-short r (with_node n c) short.1 (node-short n c short.0 h)
names-short group_end c short h = h

grouped-short : (o : Option Op) (g : Group) (c : Contents) → HasShortNames c → ShortStep (grouped o g c)
grouped-short None g c h = h
grouped-short (Some o) g c h = unless-short _ c _ h

operated-short : (l : OperationLine) (g : Group) (c : Contents) → IsShortOperation l → HasShortNames c → ShortStep (operated l g c)
operated-short l g c short h = grouped-short (op_in l c) g (with_names l c) (names-short l c short h)

-- ---- a line: a form is tried only where no word is too long
formed-short : {F : Type 0} (P : F → Type 0) (o : Option F) (ws : List Bytes) (go : F → Step) (c : Contents) → (first_long ws ≡ None → IfSome o P) → ((f : F) → P f → ShortStep (go f))
    → ShortStep (formed o ws go c)
formed-short P None ws go c has h = tt
formed-short P (Some f) ws go c has h = by (first_long ws) refl
  where
    by : (long : Option TooLong) → first_long ws ≡ long → ShortStep (unless_long long c (go f))
    by None none = h f (has none)
    by (Some long) is = tt

text-short : (test : Bool) (c : Contents) (s : Step) → ShortStep s → ShortStep (unless_not_text test c s)
text-short true c s h = h
text-short false c s h = tt

if-short : (test : Bool) (s o : Step) → ShortStep s → ShortStep o → ShortStep (if test then s else o)
if-short true s o h k = h
if-short false s o h k = k

fitting-short : (d : Draft) (o : Option TypeLine) → IfSome o IsShortTypeLine → IfSome (fitting d o) IsShortTypeLine
fitting-short d None h = tt
fitting-short d (Some l) h = by (fits_in (around d.frames) l)
  where
    by : (test : Bool) → IfSome (if test then Some l else None) IsShortTypeLine
    by true = h
    by false = tt

outside-short : (at : ℕ) (ws : List Bytes) (c : Contents) → HasShortNames c → ShortStep (step_outside at ws c)
outside-short at ws c h =
    if-short (declares ws c) _ _
    (formed-short IsShortDeclaration (declaration_line c.format ws) ws (λ d. declared d c) c (λ none. declaration-has IsShort IsShortWrite c.format ws (words-short ws none)) (λ d short. declared-short d c short h))
    (formed-short IsShortScriptLine (script_line c.format ws) ws (λ l. scripted l at c) c (λ none. script_line-has IsShort IsShortWrite c.format ws (words-short ws none)) (λ l short. scripted-short l at c short h))

headed-short : (newest : ℕ) (o : Option ℕ) (c : Contents) → HasShortNames c → ShortStep (in_format newest o c)
headed-short newest None c h = tt
headed-short newest (Some n) c h = if-short (nat_le n newest) _ _ h tt

pub step_in-short : (p : Section) (at : ℕ) (line : Bytes) (ws : List Bytes) (c : Contents) → HasShortNames c → ShortStep (step_in p at line ws c)
step_in-short (section.Head newest) at line ws c h = headed-short newest (header ws) c h
step_in-short section.Outside at line ws c h = text-short (is_utf8 line) c _ (outside-short at ws c h)
step_in-short (section.InType d) at line ws c h =
    text-short (is_utf8 line) c _ (formed-short IsShortTypeLine (fitting d (type_line c.format ws)) ws (λ l. typed l d c) c
    (λ none. fitting-short d (type_line c.format ws) (type_line-has IsShort IsShortWrite c.format ws (words-short ws none))) (λ l short. typed-short l d c short h))
step_in-short (section.InGroup g) at line ws c h =
    text-short (is_utf8 line) c _ (formed-short IsShortOperation (operation_line c.format ws) ws (λ l. operated l g c) c
    (λ none. operation-has IsShort IsShortWrite c.format ws (words-short ws none)) (λ l short. operated-short l g c short h))

-- behind a line that is not refused
pub step-short : (p next : Section) (at : ℕ) (line : Bytes) (ws : List Bytes) (c after : Contents) → HasShortNames c → step_in p at line ws c ≡ Ok (at_place next after) → HasShortNames after
step-short p next at line ws c after h is = subst (λ (o : Step). ShortStep o) is (step_in-short p at line ws c h)

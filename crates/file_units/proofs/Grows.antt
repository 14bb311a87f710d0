-- A line only adds to what was named and declared, also where it is refused.
use Rattle.file_units.proofs.Common.{[], ℕ, ◌++◌, ◌∙◌, ◌∷◌, ◌≡◌, a_case, a_deed, a_read, a_sync, a_type, a_write, acted, activity, actor_in, an_actor, an_element, ap, append-nil, append_assoc, at_head, at_place, Begins, behind, Bool}
use Rattle.file_units.proofs.Common.{by_name, by_number, Bytes, case_declared, case_in, closes_block, conditional, Contents, Declaration, declaration_line, declared, declares, Deed, delete, Draft, element, ended, Err, false, Fault}
use Rattle.file_units.proofs.Common.{fault_of, first_long, first_phase, fitting, formed, Group, group_end, grouped, Grows, if_known, insert, is_listed, is_utf8, List, move, NamedGap, next_phase, None, noted, Ok, Op, op_in, opens_and}
use Rattle.file_units.proofs.Common.{opens_branch, opens_loop, opens_xor, operated, operation_line, OperationLine, Option, outside, parallel, phase_begun, place_of, read, refl, role_noted, role_numbers, roles_noted, RoleWord, SchemaModel}
use Rattle.file_units.proofs.Common.{script_line, scripted, ScriptLine, Section, set_role, Some, State, Step, step_in, step_outside, subst, sym, sync, to_change, to_create, to_end, to_install, to_migrate, to_start, to_withdraw, TooLong}
use Rattle.file_units.proofs.Common.{true, type_end, type_line, typed, TypeLine, unless, unless_long, unless_not_text, unread, unsync, unwrite, Value, whole, Why, with_actor, with_case, with_element, with_elements, with_names, with_node}
use Rattle.file_units.proofs.Common.{with_place, with_role, with_roles, with_type, write}
use Rattle.std.proofs.Common.{if◌then◌else◌}
use Rattle.file_model.specs.declared.states.Section.TheVariants as section

-- the contents behind a line, and those with which it is refused
abbrev pub GrowsStep : Contents → Step → Type 0
GrowsStep c (Ok s) = Grows c s.contents
GrowsStep c (Err p) = Grows c p.1

-- ---- lists
pub begins-refl : {A : Type 0} (xs : List A) → Begins xs xs
begins-refl xs = ([], append-nil xs)

pub begins-trans : {A : Type 0} (xs ys zs : List A) → Begins xs ys → Begins ys zs → Begins xs zs
begins-trans xs ys zs h k = (h.0 ++ k.0, sym (append_assoc xs h.0 k.0) ∙ ap (λ l. l ++ k.0) h.1 ∙ k.1)

begins-more : {A : Type 0} (xs : List A) (x : A) → Begins xs (xs ++ x ∷ [])
begins-more xs x = (x ∷ [], refl)

begins-noted : (names : List Bytes) (n : Bytes) → Begins names (noted names n)
begins-noted names n = by (is_listed n names)
  where
    by : (test : Bool) → Begins names (if test then names else names ++ n ∷ [])
    by true = begins-refl names
    by false = begins-more names n

begins-role : (names : List Bytes) (r : RoleWord) → Begins names (role_noted names r)
begins-role names (by_number n) = begins-refl names
begins-role names (by_name n) = begins-noted names n

begins-roles : (names : List Bytes) (rs : List RoleWord) → Begins names (roles_noted names rs)
begins-roles names [] = begins-refl names
begins-roles names (r ∷ rs) = begins-trans names (role_noted names r) _ (begins-role names r) (begins-roles (role_noted names r) rs)

-- ---- contents
pub grows-refl : (c : Contents) → Grows c c
grows-refl c = (
  refl,
  refl,
  begins-refl c.nodes,
  begins-refl c.elements,
  begins-refl c.roles,
  begins-refl c.types.names,
  begins-refl c.types.items,
  begins-refl c.actors.names,
  begins-refl c.actors.items,
  begins-refl c.cases.names,
  begins-refl c.cases.items,
)

pub grows-trans : (b c d : Contents) → Grows b c → Grows c d → Grows b d
grows-trans b c d h k = (
  k.0 ∙ h.0,
  k.1 ∙ h.1,
  begins-trans b.nodes c.nodes d.nodes h.2 k.2,
  begins-trans b.elements c.elements d.elements h.3 k.3,
  begins-trans b.roles c.roles d.roles h.4 k.4,
  begins-trans b.types.names c.types.names d.types.names h.5 k.5,
  begins-trans b.types.items c.types.items d.types.items h.6 k.6,
  begins-trans b.actors.names c.actors.names d.actors.names h.7 k.7,
  begins-trans b.actors.items c.actors.items d.actors.items h.8 k.8,
  begins-trans b.cases.names c.cases.names d.cases.names h.9 k.9,
  begins-trans b.cases.items c.cases.items d.cases.items h.10 k.10,
)

more-node : (c d : Contents) (n : Bytes) → Grows c d → Grows c (with_node n d)
more-node c d n h = (h.0, h.1, begins-trans c.nodes d.nodes _ h.2 (begins-noted d.nodes n), h.3, h.4, h.5, h.6, h.7, h.8, h.9, h.10)

more-element : (c d : Contents) (e : Bytes) → Grows c d → Grows c (with_element e d)
more-element c d e h = (h.0, h.1, h.2, begins-trans c.elements d.elements _ h.3 (begins-noted d.elements e), h.4, h.5, h.6, h.7, h.8, h.9, h.10)

more-role : (c d : Contents) (r : RoleWord) → Grows c d → Grows c (with_role r d)
more-role c d r h = (h.0, h.1, h.2, h.3, begins-trans c.roles d.roles _ h.4 (begins-role d.roles r), h.5, h.6, h.7, h.8, h.9, h.10)

more-nodes : (c d : Contents) (a b : Bytes) → Grows c d → Grows c (with_node b (with_node a d))
more-nodes c d a b h = more-node c (with_node a d) b (more-node c d a h)

more-edge : (c d : Contents) (n e : Bytes) → Grows c d → Grows c (with_element e (with_node n d))
more-edge c d n e h = more-element c (with_node n d) e (more-node c d n h)

-- ---- a state behind tests
unless-grows : (first : Contents) (o : Option Why) (c : Contents) (s : State) → Grows first c → Grows first s.contents → GrowsStep first (unless o c s)
unless-grows first None c s h k = k
unless-grows first (Some w) c s h k = h

known-grows : {A : Type 0} (first : Contents) (o : Option A) (go : A → Step) (c : Contents) → Grows first c → ((x : A) → GrowsStep first (go x)) → GrowsStep first (if_known o go c)
known-grows first None go c h k = h
known-grows first (Some x) go c h k = k x

-- ---- declarations
with_type-grows : (n : Bytes) (s : SchemaModel) (c : Contents) → Grows c (with_type n s c)
with_type-grows n s c =
    let h = grows-refl c in
    (h.0, h.1, h.2, h.3, h.4, begins-noted c.types.names n, begins-more c.types.items _, h.7, h.8, h.9, h.10)

with_actor-grows : (n : Bytes) (numbers : List ℕ) (roles : List RoleWord) (c : Contents) → Grows c (with_actor n numbers (with_roles roles c))
with_actor-grows n numbers roles c =
    let h = grows-refl c in
    (h.0, h.1, h.2, h.3, begins-roles c.roles roles, h.5, h.6, begins-noted c.actors.names n, begins-more c.actors.items _, h.9, h.10)

with_case-grows : (n : Bytes) (t : ℕ) (c : Contents) → Grows c (with_case n t c)
with_case-grows n t c =
    let h = grows-refl c in
    (h.0, h.1, h.2, h.3, h.4, h.5, h.6, h.7, h.8, begins-noted c.cases.names n, begins-more c.cases.items _)

case-grows : (n : Bytes) (t : Option ℕ) (c : Contents) → GrowsStep c (case_declared n t c)
case-grows n None c = grows-refl c
case-grows n (Some t) c = unless-grows c _ c (outside (with_case n t c)) (grows-refl c) (with_case-grows n t c)

begun-grows : (c : Contents) → GrowsStep c (phase_begun c)
begun-grows c = unless-grows c _ c _ (grows-refl c) (grows-refl c)

declared-grows : (d : Declaration) (c : Contents) → GrowsStep c (declared d c)
declared-grows (a_type n) c = unless-grows c _ c _ (grows-refl c) (grows-refl c)
declared-grows (an_actor n roles) c =
    unless-grows c _ c (outside (with_actor n (role_numbers c.roles roles) (with_roles roles c))) (grows-refl c) (with_actor-grows n (role_numbers c.roles roles) roles c)
declared-grows (a_case n kind) c = case-grows n (place_of c.types.names kind) c
declared-grows first_phase c = begun-grows c

-- ---- lines of a type
ended-grows : (n : Bytes) (s : SchemaModel) (f : Option Fault) (c : Contents) → GrowsStep c (ended n s f c)
ended-grows n s None c = with_type-grows n s c
ended-grows n s (Some f) c = grows-refl c

typed-grows : (l : TypeLine) (d : Draft) (c : Contents) → GrowsStep c (typed l d c)
typed-grows (activity n role) d c = more-role c (with_node n c) role (more-node c c n (grows-refl c))
typed-grows (opens_and a b) d c = unless-grows c _ c _ (grows-refl c) (more-nodes c c a b (grows-refl c))
typed-grows (opens_xor a b role) d c = unless-grows c _ c _ (grows-refl c) (more-role c (with_node b (with_node a c)) role (more-nodes c c a b (grows-refl c)))
typed-grows (opens_branch code) d c = grows-refl c
typed-grows (opens_loop a b role) d c = unless-grows c _ c _ (grows-refl c) (more-role c (with_node b (with_node a c)) role (more-nodes c c a b (grows-refl c)))
typed-grows closes_block d c = grows-refl c
typed-grows (a_sync a b) d c = unless-grows c _ (with_node b (with_node a c)) _ (more-nodes c c a b (grows-refl c)) (more-nodes c c a b (grows-refl c))
typed-grows (an_element e k) d c = unless-grows c _ (with_element e c) _ (more-element c c e (grows-refl c)) (more-element c c e (grows-refl c))
typed-grows (a_read n e mandatory) d c = unless-grows c _ (with_element e (with_node n c)) _ (more-edge c c n e (grows-refl c)) (more-edge c c n e (grows-refl c))
typed-grows (a_write n e) d c = unless-grows c _ (with_element e (with_node n c)) _ (more-edge c c n e (grows-refl c)) (more-edge c c n e (grows-refl c))
typed-grows type_end d c = ended-grows d.name (whole d) (fault_of (whole d)) c

-- ---- lines of a phase
elements-grows : (ws : List (Bytes × Value)) (c d : Contents) → Grows c d → Grows c (with_elements ws d)
elements-grows [] c d h = h
elements-grows (w ∷ ws) c d h = elements-grows ws c (with_element w.0 d) (more-element c d w.0 h)

acted-grows : (d : Deed) (actor at : ℕ) (c : Contents) → GrowsStep c (acted d actor at c)
acted-grows (to_create n) actor at c = known-grows c (case_in n c) _ c (grows-refl c) (λ id. unless-grows c _ c _ (grows-refl c) (grows-refl c))
acted-grows (to_start n node) actor at c =
    let more = more-node c c node (grows-refl c) in known-grows c (case_in n c) _ c (grows-refl c) (λ id. unless-grows c _ (with_node node c) _ more more)
acted-grows (to_withdraw n node) actor at c =
    let more = more-node c c node (grows-refl c) in known-grows c (case_in n c) _ c (grows-refl c) (λ id. unless-grows c _ (with_node node c) _ more more)
acted-grows (to_end n node choice writes) actor at c =
    let c1 = with_node node c in
    let more = elements-grows writes c c1 (more-node c c node (grows-refl c)) in
    known-grows c (case_in n c) _ c (grows-refl c) (λ id. unless-grows c _ (with_elements writes c1) _ more more)
acted-grows (to_change n) actor at c = known-grows c (case_in n c) _ c (grows-refl c) (λ id. unless-grows c _ c _ (grows-refl c) (grows-refl c))
acted-grows (to_install n) actor at c = known-grows c (place_of c.types.names n) _ c (grows-refl c) (λ t. unless-grows c _ c _ (grows-refl c) (grows-refl c))
acted-grows (to_migrate n) actor at c = known-grows c (place_of c.types.names n) _ c (grows-refl c) (λ t. unless-grows c _ c _ (grows-refl c) (grows-refl c))

scripted-grows : (l : ScriptLine) (at : ℕ) (c : Contents) → GrowsStep c (scripted l at c)
scripted-grows next_phase at c = begun-grows c
scripted-grows (a_deed a d) at c = known-grows c (actor_in a c) _ c (grows-refl c) (λ actor. acted-grows d actor at c)

-- ---- lines of a group
place-grows : (p : NamedGap) (c d : Contents) → Grows c d → Grows c (with_place p d)
place-grows (behind n) c d h = more-node c d n h
place-grows (at_head n code) c d h = more-node c d n h

names-grows : (l : OperationLine) (c : Contents) → Grows c (with_names l c)
names-grows (insert n r p) c = more-role c (with_place p (with_node n c)) r (place-grows p c (with_node n c) (more-node c c n (grows-refl c)))
names-grows (parallel n r s j a b) c =
    let c1 = with_node n c in
    let c3 = with_node j (with_node s c1) in
    more-role c (with_node b (with_node a c3)) r (more-nodes c c3 a b (more-nodes c c1 s j (more-node c c n (grows-refl c))))
names-grows (conditional n r s j p) c =
    let c1 = with_node n c in
    let c3 = with_node j (with_node s c1) in
    more-role c (with_place p c3) r (place-grows p c c3 (more-nodes c c1 s j (more-node c c n (grows-refl c))))
names-grows (delete n) c = more-node c c n (grows-refl c)
names-grows (move n p) c = place-grows p c (with_node n c) (more-node c c n (grows-refl c))
names-grows (sync a b) c = more-nodes c c a b (grows-refl c)
names-grows (unsync a b) c = more-nodes c c a b (grows-refl c)
names-grows (element e k) c = more-element c c e (grows-refl c)
names-grows (read n e m) c = more-edge c c n e (grows-refl c)
names-grows (unread n e) c = more-edge c c n e (grows-refl c)
names-grows (write n e) c = more-edge c c n e (grows-refl c)
names-grows (unwrite n e) c = more-edge c c n e (grows-refl c)
names-grows (set_role n r) c = more-role c (with_node n c) r (more-node c c n (grows-refl c))
names-grows group_end c = grows-refl c

grouped-grows : (first : Contents) (o : Option Op) (g : Group) (c : Contents) → Grows first c → GrowsStep first (grouped o g c)
grouped-grows first None g c h = h
grouped-grows first (Some o) g c h = unless-grows first _ c _ h h

operated-grows : (l : OperationLine) (g : Group) (c : Contents) → GrowsStep c (operated l g c)
operated-grows l g c = grouped-grows c (op_in l c) g (with_names l c) (names-grows l c)

-- ---- a line
long-grows : (l : Option TooLong) (c : Contents) (s : Step) → GrowsStep c s → GrowsStep c (unless_long l c s)
long-grows None c s h = h
long-grows (Some l) c s h = grows-refl c

formed-grows : {F : Type 0} (o : Option F) (ws : List Bytes) (go : F → Step) (c : Contents) → ((f : F) → GrowsStep c (go f)) → GrowsStep c (formed o ws go c)
formed-grows None ws go c h = grows-refl c
formed-grows (Some f) ws go c h = long-grows (first_long ws) c (go f) (h f)

text-grows : (test : Bool) (c : Contents) (s : Step) → GrowsStep c s → GrowsStep c (unless_not_text test c s)
text-grows true c s h = h
text-grows false c s h = grows-refl c

if-grows : (test : Bool) (c : Contents) (s o : Step) → GrowsStep c s → GrowsStep c o → GrowsStep c (if test then s else o)
if-grows true c s o h k = h
if-grows false c s o h k = k

outside-grows : (at : ℕ) (ws : List Bytes) (c : Contents) → GrowsStep c (step_outside at ws c)
outside-grows at ws c =
    if-grows (declares ws c) c _ _ (formed-grows (declaration_line c.format ws) ws (λ d. declared d c) c (λ d. declared-grows d c))
    (formed-grows (script_line c.format ws) ws (λ l. scripted l at c) c (λ l. scripted-grows l at c))

-- a header line has no place in a unit
abbrev pub IsInUnit : Section → Type 0
IsInUnit (section.Head newest) = ⊥
IsInUnit _ = Unit {0}

pub step_in-grows : (p : Section) (at : ℕ) (line : Bytes) (ws : List Bytes) (c : Contents) → IsInUnit p → GrowsStep c (step_in p at line ws c)
step_in-grows (section.Head newest) at line ws c is = absurd is
step_in-grows section.Outside at line ws c is = text-grows (is_utf8 line) c _ (outside-grows at ws c)
step_in-grows (section.InType d) at line ws c is =
    text-grows (is_utf8 line) c _ (formed-grows (fitting d (type_line c.format ws)) ws (λ l. typed l d c) c (λ l. typed-grows l d c))
step_in-grows (section.InGroup g) at line ws c is =
    text-grows (is_utf8 line) c _ (formed-grows (operation_line c.format ws) ws (λ l. operated l g c) c (λ l. operated-grows l g c))

-- behind a line that is not refused, and behind one that is
pub step-grows : (p next : Section) (at : ℕ) (line : Bytes) (ws : List Bytes) (c after : Contents) → IsInUnit p → step_in p at line ws c ≡ Ok (at_place next after) → Grows c after
step-grows p next at line ws c after is done = subst (λ (o : Step). GrowsStep c o) done (step_in-grows p at line ws c is)

pub refused-grows : (p : Section) (at : ℕ) (line : Bytes) (ws : List Bytes) (c after : Contents) (w : Why) → IsInUnit p → step_in p at line ws c ≡ Err (w, after) → Grows c after
refused-grows p at line ws c after w is refused = subst (λ (o : Step). GrowsStep c o) refused (step_in-grows p at line ws c is)

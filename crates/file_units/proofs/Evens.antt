-- Behind each line of a unit each declaration has its name.
use Rattle.file_units.proofs.Common.{[], ℕ, ◌∙◌, ◌∷◌, ◌≡◌, a_case, a_deed, a_read, a_sync, a_type, a_write, acted, activity, actor_in, an_actor, an_element, ap, arith, at_head, at_place, behind, Bool, branched, branched_in, Bytes}
use Rattle.file_units.proofs.Common.{case_declared, case_in, closed, closed_in, closes_block, conditional, Contents, Declaration, declaration_line, declared, declares, Deed, delete, Draft, element, ended, false, Fault, fault_of, first_long}
use Rattle.file_units.proofs.Common.{first_phase, fitting, formed, Group, group_end, grouped, if_known, IfOk, insert, is_listed, is_utf8, IsEven, length, length-append, List, listed, move, NamedGap, new_draft, next_phase, None, Ok, Op}
use Rattle.file_units.proofs.Common.{op_in, opens_and, opens_branch, opens_loop, opens_xor, operated, operation_line, OperationLine, Option, option_or, outside, parallel, phase_begun, place_of, read, refl, role_numbers, SchemaModel}
use Rattle.file_units.proofs.Common.{script_line, scripted, ScriptLine, Section, set_role, Some, State, Step, step_in, step_outside, subst, sync, to_change, to_create, to_end, to_install, to_migrate, to_start, to_withdraw, TooLong, true}
use Rattle.file_units.proofs.Common.{twice, type_end, type_line, typed, TypeLine, unless, unless_long, unless_not_text, unread, unsync, unwrite, Value, whole, Why, with_actor, with_case, with_element, with_elements, with_names, with_node}
use Rattle.file_units.proofs.{Common.{with_place, with_roles, with_type, write}, Grows.IsInUnit}
use Rattle.std.proofs.Common.{if◌then◌else◌}
use Rattle.file_names.specs.declared.declared.DeclaredList.{DeclaredList}
use Rattle.file_names.proofs.Noted.{absent_noted}
use Rattle.file_drafts.specs.declared.frames.Frame.{Frame}
use Rattle.file_model.specs.declared.states.Section.TheVariants as section

-- while the lines of a type are read its name is not listed
abbrev pub EvenIn : Section → Contents → Type 0
EvenIn (section.Head newest) c = ⊥
EvenIn section.Outside c = IsEven c
EvenIn (section.InType d) c = IsEven c × (is_listed d.name c.types.names ≡ false)
EvenIn (section.InGroup g) c = IsEven c

abbrev pub EvenState : State → Type 0
EvenState s = EvenIn s.place s.contents

abbrev pub EvenStep : Step → Type 0
EvenStep o = IfOk o EvenState

-- ---- one more declaration, whose name was not listed
listed-even : {A : Type 0} (n : Bytes) (x : A) (ds : DeclaredList A) → is_listed n ds.names ≡ false → length ds.names ≡ length ds.items → length (listed n x ds).names ≡ length (listed n x ds).items
listed-even n x ds absent even =
    omega (arith, even, ap length (absent_noted ds.names n absent), length-append ds.names (n ∷ []), length-append ds.items (x ∷ []))

-- ---- a state behind tests
unless-even : (o : Option Why) (c : Contents) (s : State) → EvenState s → EvenStep (unless o c s)
unless-even None c s h = h
unless-even (Some w) c s h = tt

known-even : {A : Type 0} (o : Option A) (go : A → Step) (c : Contents) → ((x : A) → EvenStep (go x)) → EvenStep (if_known o go c)
known-even None go c h = tt
known-even (Some x) go c h = h x

-- nothing is declared twice
once-even : (test : Bool) (o : Option Why) (c : Contents) (s : State) → (test ≡ false → EvenState s) → EvenStep (unless (option_or (twice test) o) c s)
once-even true o c s h = tt
once-even false o c s h = unless-even o c s (h refl)

-- ---- declarations
type-even : (n : Bytes) (s : SchemaModel) (c : Contents) → is_listed n c.types.names ≡ false → IsEven c → IsEven (with_type n s c)
type-even n s c absent h = record { types = listed-even n _ c.types absent h.types; actors = h.actors; cases = h.cases }

actor-even : (n : Bytes) (numbers : List ℕ) (c : Contents) → is_listed n c.actors.names ≡ false → IsEven c → IsEven (with_actor n numbers c)
actor-even n numbers c absent h = record { types = h.types; actors = listed-even n _ c.actors absent h.actors; cases = h.cases }

case-even : (n : Bytes) (t : ℕ) (c : Contents) → is_listed n c.cases.names ≡ false → IsEven c → IsEven (with_case n t c)
case-even n t c absent h = record { types = h.types; actors = h.actors; cases = listed-even n _ c.cases absent h.cases }

case_declared-even : (n : Bytes) (t : Option ℕ) (c : Contents) → IsEven c → EvenStep (case_declared n t c)
case_declared-even n None c h = tt
case_declared-even n (Some t) c h = once-even (is_listed n c.cases.names) _ c (outside (with_case n t c)) (λ absent. case-even n t c absent h)

begun-even : (c : Contents) → IsEven c → EvenStep (phase_begun c)
begun-even c h = unless-even _ c _ h

declared-even : (d : Declaration) (c : Contents) → IsEven c → EvenStep (declared d c)
declared-even (a_type n) c h = once-even (is_listed n c.types.names) _ c (at_place (section.InType (new_draft n)) c) (λ absent. (h, absent))
declared-even (an_actor n roles) c h =
    once-even (is_listed n c.actors.names) _ c (outside (with_actor n (role_numbers c.roles roles) (with_roles roles c)))
    (λ absent. actor-even n (role_numbers c.roles roles) (with_roles roles c) absent h)
declared-even (a_case n kind) c h = case_declared-even n (place_of c.types.names kind) c h
declared-even first_phase c h = begun-even c h

-- ---- lines of a type: its name stays
closed-name : (fs : List Frame) (d : Draft) → (closed_in fs d).name ≡ d.name
closed-name [] d = refl
closed-name (f ∷ fs) d = refl

branched-name : (code : ℕ) (fs : List Frame) (d : Draft) → (branched_in code fs d).name ≡ d.name
branched-name code [] d = refl
branched-name code (f ∷ fs) d = refl

renamed : (d e : Draft) (c : Contents) → e.name ≡ d.name → EvenIn (section.InType d) c → EvenIn (section.InType e) c
renamed d e c same h = (h.0, ap (λ n. is_listed n c.types.names) same ∙ h.1)

ended-even : (n : Bytes) (s : SchemaModel) (f : Option Fault) (c : Contents) → is_listed n c.types.names ≡ false → IsEven c → EvenStep (ended n s f c)
ended-even n s None c absent h = type-even n s c absent h
ended-even n s (Some f) c absent h = tt

typed-even : (l : TypeLine) (d : Draft) (c : Contents) → EvenIn (section.InType d) c → EvenStep (typed l d c)
typed-even (activity n role) d c h = h
typed-even (opens_and a b) d c h = unless-even _ c _ h
typed-even (opens_xor a b role) d c h = unless-even _ c _ h
typed-even (opens_branch code) d c h = renamed d (branched code d) c (branched-name code d.frames d) h
typed-even (opens_loop a b role) d c h = unless-even _ c _ h
typed-even closes_block d c h = renamed d (closed d) c (closed-name d.frames d) h
typed-even (a_sync a b) d c h = unless-even _ (with_node b (with_node a c)) _ h
typed-even (an_element e k) d c h = unless-even _ (with_element e c) _ h
typed-even (a_read n e mandatory) d c h = unless-even _ (with_element e (with_node n c)) _ h
typed-even (a_write n e) d c h = unless-even _ (with_element e (with_node n c)) _ h
typed-even type_end d c h = ended-even d.name (whole d) (fault_of (whole d)) c h.1 h.0

-- ---- lines of a phase
elements-even : (ws : List (Bytes × Value)) (c : Contents) → IsEven c → IsEven (with_elements ws c)
elements-even [] c h = h
elements-even (w ∷ ws) c h = elements-even ws (with_element w.0 c) h

acted-even : (d : Deed) (actor at : ℕ) (c : Contents) → IsEven c → EvenStep (acted d actor at c)
acted-even (to_create n) actor at c h = known-even (case_in n c) _ c (λ id. unless-even _ c _ h)
acted-even (to_start n node) actor at c h = known-even (case_in n c) _ c (λ id. unless-even _ (with_node node c) _ h)
acted-even (to_withdraw n node) actor at c h = known-even (case_in n c) _ c (λ id. unless-even _ (with_node node c) _ h)
acted-even (to_end n node choice writes) actor at c h =
    let c1 = with_node node c in
    known-even (case_in n c) _ c (λ id. unless-even _ (with_elements writes c1) _ (elements-even writes c1 h))
acted-even (to_change n) actor at c h = known-even (case_in n c) _ c (λ id. unless-even _ c _ h)
acted-even (to_install n) actor at c h = known-even (place_of c.types.names n) _ c (λ t. unless-even _ c _ h)
acted-even (to_migrate n) actor at c h = known-even (place_of c.types.names n) _ c (λ t. unless-even _ c _ h)

scripted-even : (l : ScriptLine) (at : ℕ) (c : Contents) → IsEven c → EvenStep (scripted l at c)
scripted-even next_phase at c h = begun-even c h
scripted-even (a_deed a d) at c h = known-even (actor_in a c) _ c (λ actor. acted-even d actor at c h)

-- ---- lines of a group
place-even : (p : NamedGap) (c : Contents) → IsEven c → IsEven (with_place p c)
place-even (behind n) c h = h
place-even (at_head n code) c h = h

names-even : (l : OperationLine) (c : Contents) → IsEven c → IsEven (with_names l c)
names-even (insert n r p) c h = place-even p (with_node n c) h
names-even (parallel n r s j a b) c h = h
names-even (conditional n r s j p) c h = place-even p (with_node j (with_node s (with_node n c))) h
names-even (delete n) c h = h
names-even (move n p) c h = place-even p (with_node n c) h
names-even (sync a b) c h = h
names-even (unsync a b) c h = h
names-even (element e k) c h = h
names-even (read n e m) c h = h
names-even (unread n e) c h = h
names-even (write n e) c h = h
names-even (unwrite n e) c h = h
names-even (set_role n r) c h = h
names-even group_end c h = h

grouped-even : (o : Option Op) (g : Group) (c : Contents) → IsEven c → EvenStep (grouped o g c)
grouped-even None g c h = h
grouped-even (Some o) g c h = unless-even _ c _ h

operated-even : (l : OperationLine) (g : Group) (c : Contents) → IsEven c → EvenStep (operated l g c)
operated-even l g c h = grouped-even (op_in l c) g (with_names l c) (names-even l c h)

-- ---- a line
long-even : (l : Option TooLong) (c : Contents) (s : Step) → EvenStep s → EvenStep (unless_long l c s)
long-even None c s h = h
long-even (Some l) c s h = tt

formed-even : {F : Type 0} (o : Option F) (ws : List Bytes) (go : F → Step) (c : Contents) → ((f : F) → EvenStep (go f)) → EvenStep (formed o ws go c)
formed-even None ws go c h = tt
formed-even (Some f) ws go c h = long-even (first_long ws) c (go f) (h f)

text-even : (test : Bool) (c : Contents) (s : Step) → EvenStep s → EvenStep (unless_not_text test c s)
text-even true c s h = h
text-even false c s h = tt

if-even : (test : Bool) (s o : Step) → EvenStep s → EvenStep o → EvenStep (if test then s else o)
if-even true s o h k = h
if-even false s o h k = k

outside-even : (at : ℕ) (ws : List Bytes) (c : Contents) → IsEven c → EvenStep (step_outside at ws c)
outside-even at ws c h =
    if-even (declares ws c) _ _ (formed-even (declaration_line c.format ws) ws (λ d. declared d c) c (λ d. declared-even d c h))
    (formed-even (script_line c.format ws) ws (λ l. scripted l at c) c (λ l. scripted-even l at c h))

pub step_in-even : (p : Section) (at : ℕ) (line : Bytes) (ws : List Bytes) (c : Contents) → EvenIn p c → EvenStep (step_in p at line ws c)
step_in-even (section.Head newest) at line ws c h = absurd h
step_in-even section.Outside at line ws c h = text-even (is_utf8 line) c _ (outside-even at ws c h)
step_in-even (section.InType d) at line ws c h =
    text-even (is_utf8 line) c _ (formed-even (fitting d (type_line c.format ws)) ws (λ l. typed l d c) c (λ l. typed-even l d c h))
step_in-even (section.InGroup g) at line ws c h =
    text-even (is_utf8 line) c _ (formed-even (operation_line c.format ws) ws (λ l. operated l g c) c (λ l. operated-even l g c h))

-- behind a line that is not refused
pub step-even : (p next : Section) (at : ℕ) (line : Bytes) (ws : List Bytes) (c after : Contents) → EvenIn p c → step_in p at line ws c ≡ Ok (at_place next after) → EvenIn next after
step-even p next at line ws c after h is = subst (λ (o : Step). EvenStep o) is (step_in-even p at line ws c h)

-- it is no header line that stands there
pub even-in_unit : (p : Section) (c : Contents) → EvenIn p c → IsInUnit p
even-in_unit (section.Head newest) c h = absurd h
even-in_unit section.Outside c h = tt
even-in_unit (section.InType d) c h = tt
even-in_unit (section.InGroup g) c h = tt

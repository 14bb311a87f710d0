-- No line changes how much may be declared.
use Rattle.file_model.proofs.Common.{[], ℕ, ◌∙◌, ◌∷◌, ◌≡◌, a_case, a_deed, a_read, a_sync, a_type, a_write, acted, activity, actor_in, an_actor, an_element, at_head, behind, Bool, Bytes, case_declared, case_in, closes_block, conditional}
use Rattle.file_model.proofs.Common.{Contents, Declaration, declaration_line, declared, declares, Deed, delete, Draft, element, ended, Err, false, Fault, fault_of, first_long, first_phase, fitting, formed, Group, group_end, grouped, header}
use Rattle.file_model.proofs.Common.{if_known, IfOk, if◌then◌else◌, in_format, insert, is_skipped, is_utf8, Limits, List, move, NamedGap, nat_le, next_phase, None, Ok, Op, op_in, opens_and, opens_branch, opens_loop, opens_xor, operated}
use Rattle.file_model.proofs.Common.{operation_line, OperationLine, Option, parallel, place_of, read, refl, SchemaModel, script_line, scripted, ScriptLine, Section, set_role, Some, State, Step, step_in, step_outside, step_words, sync}
use Rattle.file_model.proofs.Common.{to_change, to_create, to_end, to_install, to_migrate, to_start, to_withdraw, TooLong, true, type_end, type_line, typed, TypeLine, unless, unless_long, unless_not_text, unread, unsync, unwrite, Value}
use Rattle.file_model.proofs.Common.{whole, Why, with_element, with_elements, with_names, with_node, with_place, write}
use Rattle.file_model.specs.declared.states.Section.TheVariants as section

abbrev pub LimitsStay : Contents → Step → Type 0
LimitsStay c o = IfOk o (λ s. s.contents.limits ≡ c.limits)

-- ---- a state behind tests
unless-stay : (o : Option Why) (first c : Contents) (s : State) → s.contents.limits ≡ first.limits → LimitsStay first (unless o c s)
unless-stay None first c s h = h
unless-stay (Some w) first c s h = tt

known-stay : {A : Type 0} (o : Option A) (go : A → Step) (first c : Contents) → ((x : A) → LimitsStay first (go x)) → LimitsStay first (if_known o go c)
known-stay None go first c h = tt
known-stay (Some x) go first c h = h x

-- ---- declarations
case-stay : (n : Bytes) (t : Option ℕ) (c : Contents) → LimitsStay c (case_declared n t c)
case-stay n None c = tt
case-stay n (Some t) c = unless-stay _ c c _ refl

declared-stay : (d : Declaration) (c : Contents) → LimitsStay c (declared d c)
declared-stay (a_type n) c = unless-stay _ c c _ refl
declared-stay (an_actor n roles) c = unless-stay _ c c _ refl
declared-stay (a_case n kind) c = case-stay n (place_of c.types.names kind) c
declared-stay first_phase c = unless-stay _ c c _ refl

-- ---- lines of a type
ended-stay : (n : Bytes) (s : SchemaModel) (f : Option Fault) (c : Contents) → LimitsStay c (ended n s f c)
ended-stay n s None c = refl
ended-stay n s (Some f) c = tt

typed-stay : (l : TypeLine) (d : Draft) (c : Contents) → LimitsStay c (typed l d c)
typed-stay (activity n role) d c = refl
typed-stay (opens_and a b) d c = unless-stay _ c c _ refl
typed-stay (opens_xor a b role) d c = unless-stay _ c c _ refl
typed-stay (opens_branch code) d c = refl
typed-stay (opens_loop a b role) d c = unless-stay _ c c _ refl
typed-stay closes_block d c = refl
typed-stay (a_sync a b) d c = unless-stay _ c (with_node b (with_node a c)) _ refl
typed-stay (an_element e k) d c = unless-stay _ c (with_element e c) _ refl
typed-stay (a_read n e mandatory) d c = unless-stay _ c (with_element e (with_node n c)) _ refl
typed-stay (a_write n e) d c = unless-stay _ c (with_element e (with_node n c)) _ refl
typed-stay type_end d c = ended-stay d.name (whole d) (fault_of (whole d)) c

-- ---- lines of a phase
elements-stay : (ws : List (Bytes × Value)) (c : Contents) → (with_elements ws c).limits ≡ c.limits
elements-stay [] c = refl
elements-stay (w ∷ ws) c = elements-stay ws (with_element w.0 c)

acted-stay : (d : Deed) (actor at : ℕ) (c : Contents) → LimitsStay c (acted d actor at c)
acted-stay (to_create n) actor at c = known-stay (case_in n c) _ c c (λ id. unless-stay _ c c _ refl)
acted-stay (to_start n node) actor at c = known-stay (case_in n c) _ c c (λ id. unless-stay _ c (with_node node c) _ refl)
acted-stay (to_withdraw n node) actor at c = known-stay (case_in n c) _ c c (λ id. unless-stay _ c (with_node node c) _ refl)
acted-stay (to_end n node choice writes) actor at c =
    let c1 = with_node node c in
    known-stay (case_in n c) _ c c (λ id. unless-stay _ c (with_elements writes c1) _ (elements-stay writes c1))
acted-stay (to_change n) actor at c = known-stay (case_in n c) _ c c (λ id. unless-stay _ c c _ refl)
acted-stay (to_install n) actor at c = known-stay (place_of c.types.names n) _ c c (λ t. unless-stay _ c c _ refl)
acted-stay (to_migrate n) actor at c = known-stay (place_of c.types.names n) _ c c (λ t. unless-stay _ c c _ refl)

scripted-stay : (l : ScriptLine) (at : ℕ) (c : Contents) → LimitsStay c (scripted l at c)
scripted-stay next_phase at c = unless-stay _ c c _ refl
scripted-stay (a_deed a d) at c = known-stay (actor_in a c) _ c c (λ actor. acted-stay d actor at c)

-- ---- lines of a group
place-stay : (p : NamedGap) (c : Contents) → (with_place p c).limits ≡ c.limits
place-stay (behind n) c = refl
place-stay (at_head n code) c = refl

names-stay : (l : OperationLine) (c : Contents) → (with_names l c).limits ≡ c.limits
names-stay (insert n r p) c = place-stay p (with_node n c)
names-stay (parallel n r s j a b) c = refl
names-stay (conditional n r s j p) c = place-stay p (with_node j (with_node s (with_node n c)))
names-stay (delete n) c = refl
names-stay (move n p) c = place-stay p (with_node n c)
names-stay (sync a b) c = refl
names-stay (unsync a b) c = refl
names-stay (element e k) c = refl
names-stay (read n e m) c = refl
names-stay (unread n e) c = refl
names-stay (write n e) c = refl
names-stay (unwrite n e) c = refl
names-stay (set_role n r) c = refl
names-stay group_end c = refl

grouped-stay : (o : Option Op) (g : Group) (first c : Contents) → c.limits ≡ first.limits → LimitsStay first (grouped o g c)
grouped-stay None g first c h = h
grouped-stay (Some o) g first c h = unless-stay _ first c _ h

operated-stay : (l : OperationLine) (g : Group) (c : Contents) → LimitsStay c (operated l g c)
operated-stay l g c = grouped-stay (op_in l c) g c (with_names l c) (names-stay l c)

-- ---- a line
long-stay : (l : Option TooLong) (c : Contents) (s : Step) → LimitsStay c s → LimitsStay c (unless_long l c s)
long-stay None c s h = h
long-stay (Some l) c s h = tt

formed-stay : {F : Type 0} (o : Option F) (ws : List Bytes) (go : F → Step) (c : Contents) → ((f : F) → LimitsStay c (go f)) → LimitsStay c (formed o ws go c)
formed-stay None ws go c h = tt
formed-stay (Some f) ws go c h = long-stay (first_long ws) c (go f) (h f)

text-stay : (test : Bool) (c : Contents) (s : Step) → LimitsStay c s → LimitsStay c (unless_not_text test c s)
text-stay true c s h = h
text-stay false c s h = tt

if-stay : (test : Bool) (c : Contents) (s o : Step) → LimitsStay c s → LimitsStay c o → LimitsStay c (if test then s else o)
if-stay true c s o h k = h
if-stay false c s o h k = k

format-stay : (newest : ℕ) (o : Option ℕ) (c : Contents) → LimitsStay c (in_format newest o c)
format-stay newest None c = tt
format-stay newest (Some n) c = if-stay (nat_le n newest) c _ _ refl tt

outside-stay : (at : ℕ) (ws : List Bytes) (c : Contents) → LimitsStay c (step_outside at ws c)
outside-stay at ws c =
    if-stay (declares ws c) c _ _ (formed-stay (declaration_line c.format ws) ws (λ d. declared d c) c (λ d. declared-stay d c))
    (formed-stay (script_line c.format ws) ws (λ l. scripted l at c) c (λ l. scripted-stay l at c))

pub step_in-stay : (p : Section) (at : ℕ) (line : Bytes) (ws : List Bytes) (c : Contents) → LimitsStay c (step_in p at line ws c)
step_in-stay (section.Head newest) at line ws c = format-stay newest (header ws) c
step_in-stay section.Outside at line ws c = text-stay (is_utf8 line) c _ (outside-stay at ws c)
step_in-stay (section.InType d) at line ws c =
    text-stay (is_utf8 line) c _ (formed-stay (fitting d (type_line c.format ws)) ws (λ l. typed l d c) c (λ l. typed-stay l d c))
step_in-stay (section.InGroup g) at line ws c =
    text-stay (is_utf8 line) c _ (formed-stay (operation_line c.format ws) ws (λ l. operated l g c) c (λ l. operated-stay l g c))

step-stay : (s : State) (at : ℕ) (line : Bytes) (ws : List Bytes) → LimitsStay s.contents (step_words s at line ws)
step-stay s at line ws = if-stay (is_skipped ws) s.contents (Ok s) _ refl (step_in-stay s.place at line ws s.contents)

-- ---- what holds behind a line, with limits that were these before it
with-limits : (P : State → Type 0) (limits : Limits) (c : Contents) (o : Step) → IfOk o P → LimitsStay c o → c.limits ≡ limits → IfOk o (λ s. P s × (s.contents.limits ≡ limits))
with-limits P limits c (Ok s) h stay is = (h, stay ∙ is)
with-limits P limits c (Err w) h stay is = tt

pub step-with : (P : State → Type 0) (limits : Limits) (s : State) (at : ℕ) (line : Bytes) (ws : List Bytes) → IfOk (step_words s at line ws) P → s.contents.limits ≡ limits
    → IfOk (step_words s at line ws) (λ next. P next × (next.contents.limits ≡ limits))
step-with P limits s at line ws h is = with-limits P limits s.contents (step_words s at line ws) h (step-stay s at line ws) is

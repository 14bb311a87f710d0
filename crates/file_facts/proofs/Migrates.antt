-- In formats 1 and 2 nothing is declared once a phase has begun, so a migrate calls all cases of its type.
use Rattle.file_facts.proofs.Common.{[], ℕ, ◌+◌, ◌==◌, ◌∷◌, ◌≡◌, a_case, a_deed, a_read, a_sync, a_type, a_write, Act, act_of, acted, activity, actor_in, all_phases, AllRows, an_actor, an_element, at_head, at_line, at_place}
use Rattle.file_facts.proofs.Common.{begins_reserved, behind, Bool, Bytes, case_declared, case_in, CaseDecl, closes_block, conditional, Contents, counted, Declaration, declaration_line, declared, declares, Deed, delete, Draft, element}
use Rattle.file_facts.proofs.Common.{ended, Err, false, Fault, fault_of, File, file_up_to, finished, finished_in, first_long, first_phase, fitting, formed, Group, group_end, grouped, header, if_known, IfOk, if◌then◌else◌, in_format, insert}
use Rattle.file_facts.proofs.Common.{is_skipped, is_some, is_utf8, length, Line, line_of, line_of_group, lines_of, LinesMoveAll, List, migrate_of, MigratesAll, migrating, migrations_with, move, MovesAll, NamedGap, nat_le, next_phase}
use Rattle.file_facts.proofs.Common.{node_in, None, not, numbered, Ok, one_install, Op, op_in, open_lines, opening, opens_and, opens_branch, opens_loop, opens_xor, operated, operation_line, OperationLine, Option, outside, parallel}
use Rattle.file_facts.proofs.Common.{phase_begun, phases_with, place_of, read, read_from, refl, Refused, Result, rows-append, SchemaModel, script_line, scripted, ScriptLine, Section, set_role, Some, State, Step, step, step_in, step_outside}
use Rattle.file_facts.proofs.Common.{step_words, subst, sym, sync, Target, to_change, to_create, to_end, to_install, to_migrate, to_start, to_withdraw, TooLong, true, type_end, type_line, typed, TypeLine, unless, unless_long}
use Rattle.file_facts.proofs.Common.{unless_not_text, unread, unsync, unwrite, Value, whole, Why, with_case, with_element, with_elements, with_group, with_line, with_names, with_node, with_op, with_place, with_script_line, without_return}
use Rattle.file_facts.proofs.Common.{words_of, write}
use Rattle.file_model.specs.declared.files.Act.TheVariants as act
use Rattle.file_model.specs.declared.refusals.Why.TheVariants as why
use Rattle.file_model.specs.declared.states.Section.TheVariants as section
use Rattle.file_model.specs.declared.states.Target.TheVariants as target

-- no phase has ended where none is open, and each migrate calls all cases
pub record IsFixed (cases : List CaseDecl) (phases : List (List Line)) (current : Option (List Line)) : Type 0 where
  pub begun : current ≡ None → phases ≡ []
  pub moved : AllRows (LinesMoveAll cases) phases
  pub moving : LinesMoveAll cases (open_lines current)

abbrev Fixed : Contents → Type 0
Fixed c = (c.format == 3) ≡ false → IsFixed c.cases.items c.phases c.current

abbrev FixedIn : Section → Contents → Type 0
FixedIn (section.Head newest) c = IsFixed c.cases.items c.phases c.current
FixedIn _ c = Fixed c

abbrev FixedState : State → Type 0
FixedState s = FixedIn s.place s.contents

abbrev FixedStep : Step → Type 0
FixedStep o = IfOk o FixedState

-- ---- a state behind tests
unless-fixed : (o : Option Why) (c : Contents) (s : State) → FixedState s → FixedStep (unless o c s)
unless-fixed None c s h = h
unless-fixed (Some w) c s h = tt

known-fixed : {A : Type 0} (o : Option A) (go : A → Step) (c : Contents) → ((x : A) → FixedStep (go x)) → FixedStep (if_known o go c)
known-fixed None go c h = tt
known-fixed (Some x) go c h = h x

-- ---- phases and lines
all-moved : (cases : List CaseDecl) (phases : List (List Line)) (current : Option (List Line)) → IsFixed cases phases current → AllRows (LinesMoveAll cases) (phases_with current phases)
all-moved cases phases None h = h.moved
all-moved cases phases (Some lines) h = rows-append (LinesMoveAll cases) phases (lines ∷ []) h.moved (h.moving, tt)

begun-fixed : (c : Contents) → Fixed c → FixedStep (phase_begun c)
begun-fixed c h =
    unless-fixed _ c (outside (record c { phases = all_phases c; current = Some [] })) (λ old. record {
      begun = λ is. absurd (cc (is));
      moved = all-moved c.cases.items c.phases c.current (h old);
      moving = tt;
    })

line-fixed : (l : Line) (c : Contents) → MovesAll c.cases.items l.act → Fixed c → Fixed (with_script_line l c)
line-fixed l c all h old = record {
  begun = λ is. absurd (cc (is));
  moved = (h old).moved;
  moving = rows-append (λ (x : Line). MovesAll c.cases.items x.act) (open_lines c.current) (l ∷ []) (h old).moving (all, tt);
}

-- ---- declarations
none-open : (o : Option (List Line)) → not (is_some o) ≡ true → o ≡ None
none-open None is = refl
none-open (Some lines) is = absurd (cc (is))

-- where something is declared in format 1 or 2 no phase has begun
nothing-open : (ws : List Bytes) (c : Contents) → declares ws c ≡ true → (c.format == 3) ≡ false → c.current ≡ None
nothing-open ws c is old = none-open c.current (subst (λ test. (if test then begins_reserved ws else not (is_some c.current)) ≡ true) old is)

unbegun : (cases : List CaseDecl) → IsFixed cases [] None
unbegun cases = record { begun = λ is. refl; moved = tt; moving = tt }

case-fixed : (n : Bytes) (t : ℕ) (ws : List Bytes) (c : Contents) → declares ws c ≡ true → Fixed c → Fixed (with_case n t c)
case-fixed n t ws c is h old =
    let none = nothing-open ws c is old in
    let cases = (with_case n t c).cases.items in
    subst (λ current. IsFixed cases c.phases current) (sym none) (subst (λ phases. IsFixed cases phases None) (sym ((h old).begun none)) (unbegun cases))

case_declared-fixed : (n : Bytes) (t : Option ℕ) (ws : List Bytes) (c : Contents) → declares ws c ≡ true → Fixed c → FixedStep (case_declared n t c)
case_declared-fixed n None ws c is h = tt
case_declared-fixed n (Some t) ws c is h = unless-fixed _ c (outside (with_case n t c)) (case-fixed n t ws c is h)

declared-fixed : (d : Declaration) (ws : List Bytes) (c : Contents) → declares ws c ≡ true → Fixed c → FixedStep (declared d c)
declared-fixed (a_type n) ws c is h = unless-fixed _ c _ h
declared-fixed (an_actor n roles) ws c is h = unless-fixed _ c _ h
declared-fixed (a_case n kind) ws c is h = case_declared-fixed n (place_of c.types.names kind) ws c is h
declared-fixed first_phase ws c is h = begun-fixed c h

-- ---- lines of a type
ended-fixed : (n : Bytes) (s : SchemaModel) (f : Option Fault) (c : Contents) → Fixed c → FixedStep (ended n s f c)
ended-fixed n s None c h = h
ended-fixed n s (Some f) c h = tt

typed-fixed : (l : TypeLine) (d : Draft) (c : Contents) → Fixed c → FixedStep (typed l d c)
typed-fixed (activity n role) d c h = h
typed-fixed (opens_and a b) d c h = unless-fixed _ c _ h
typed-fixed (opens_xor a b role) d c h = unless-fixed _ c _ h
typed-fixed (opens_branch code) d c h = h
typed-fixed (opens_loop a b role) d c h = unless-fixed _ c _ h
typed-fixed closes_block d c h = h
typed-fixed (a_sync a b) d c h = unless-fixed _ (with_node b (with_node a c)) _ h
typed-fixed (an_element e k) d c h = unless-fixed _ (with_element e c) _ h
typed-fixed (a_read n e mandatory) d c h = unless-fixed _ (with_element e (with_node n c)) _ h
typed-fixed (a_write n e) d c h = unless-fixed _ (with_element e (with_node n c)) _ h
typed-fixed type_end d c h = ended-fixed d.name (whole d) (fault_of (whole d)) c h

-- ---- lines of a phase
with_line-fixed : (at actor : ℕ) (a : Act) (c : Contents) → MovesAll c.cases.items a → Fixed c → FixedStep (with_line at actor a c)
with_line-fixed at actor a c all h = unless-fixed _ c _ (line-fixed (line_of at actor a c) (counted c) all h)

migrating-fixed : (at actor t : ℕ) (c : Contents) → Fixed c → FixedStep (migrating at actor t c)
migrating-fixed at actor t c h =
    unless-fixed _ c _ (line-fixed (line_of at actor (migrate_of t c) c) (counted (record c { counts = record c.counts { migrations = migrations_with t c } })) refl h)

elements-fixed : (ws : List (Bytes × Value)) (c : Contents) → Fixed c → Fixed (with_elements ws c)
elements-fixed [] c h = h
elements-fixed (w ∷ ws) c h = elements-fixed ws (with_element w.0 c) h

acted-fixed : (d : Deed) (actor at : ℕ) (c : Contents) → Fixed c → FixedStep (acted d actor at c)
acted-fixed (to_create n) actor at c h = known-fixed (case_in n c) _ c (λ id. with_line-fixed at actor (act.Create id) c tt h)
acted-fixed (to_start n node) actor at c h = known-fixed (case_in n c) _ c (λ id. with_line-fixed at actor (act.Start id (node_in node c)) (with_node node c) tt h)
acted-fixed (to_withdraw n node) actor at c h = known-fixed (case_in n c) _ c (λ id. with_line-fixed at actor (act.Withdraw id (node_in node c)) (with_node node c) tt h)
acted-fixed (to_end n node choice writes) actor at c h =
    let c1 = with_node node c in
    known-fixed (case_in n c) _ c (λ id. with_line-fixed at actor (act.End id (node_in node c) choice (numbered writes c1)) (with_elements writes c1) tt (elements-fixed writes c1 h))
acted-fixed (to_change n) actor at c h = known-fixed (case_in n c) _ c (λ id. unless-fixed _ c (with_group at actor (target.Case id) c) h)
acted-fixed (to_install n) actor at c h = known-fixed (place_of c.types.names n) _ c (λ t. unless-fixed _ c (with_group at actor (target.«Type» t) (one_install c)) h)
acted-fixed (to_migrate n) actor at c h = known-fixed (place_of c.types.names n) _ c (λ t. migrating-fixed at actor t c h)

scripted-fixed : (l : ScriptLine) (at : ℕ) (c : Contents) → Fixed c → FixedStep (scripted l at c)
scripted-fixed next_phase at c h = begun-fixed c h
scripted-fixed (a_deed a d) at c h = known-fixed (actor_in a c) _ c (λ actor. acted-fixed d actor at c h)

-- ---- lines of a group
place-fixed : (p : NamedGap) (c : Contents) → Fixed c → Fixed (with_place p c)
place-fixed (behind n) c h = h
place-fixed (at_head n code) c h = h

names-fixed : (l : OperationLine) (c : Contents) → Fixed c → Fixed (with_names l c)
names-fixed (insert n r p) c h = place-fixed p (with_node n c) h
names-fixed (parallel n r s j a b) c h = h
names-fixed (conditional n r s j p) c h = place-fixed p (with_node j (with_node s (with_node n c))) h
names-fixed (delete n) c h = h
names-fixed (move n p) c h = place-fixed p (with_node n c) h
names-fixed (sync a b) c h = h
names-fixed (unsync a b) c h = h
names-fixed (element e k) c h = h
names-fixed (read n e m) c h = h
names-fixed (unread n e) c h = h
names-fixed (write n e) c h = h
names-fixed (unwrite n e) c h = h
names-fixed (set_role n r) c h = h
names-fixed group_end c h = h

group-moves : (cases : List CaseDecl) (t : Target) (ops : List Op) → MovesAll cases (act_of t ops)
group-moves cases (target.Case id) ops = tt
group-moves cases (target.«Type» t) ops = tt

grouped-fixed : (o : Option Op) (g : Group) (c : Contents) → Fixed c → FixedStep (grouped o g c)
grouped-fixed None g c h = line-fixed (line_of_group g) c (group-moves c.cases.items g.target g.ops) h
grouped-fixed (Some o) g c h = unless-fixed _ c (at_place (section.InGroup (with_op o g)) c) h

operated-fixed : (l : OperationLine) (g : Group) (c : Contents) → Fixed c → FixedStep (operated l g c)
operated-fixed l g c h = grouped-fixed (op_in l c) g (with_names l c) (names-fixed l c h)

-- ---- a line
if-fixed : (test : Bool) (s o : Step) → (test ≡ true → FixedStep s) → FixedStep o → FixedStep (if test then s else o)
if-fixed true s o h k = h refl
if-fixed false s o h k = k

long-fixed : (l : Option TooLong) (c : Contents) (s : Step) → FixedStep s → FixedStep (unless_long l c s)
long-fixed None c s h = h
long-fixed (Some l) c s h = tt

formed-fixed : {F : Type 0} (o : Option F) (ws : List Bytes) (go : F → Step) (c : Contents) → ((f : F) → FixedStep (go f)) → FixedStep (formed o ws go c)
formed-fixed None ws go c h = tt
formed-fixed (Some f) ws go c h = long-fixed (first_long ws) c (go f) (h f)

text-fixed : (test : Bool) (c : Contents) (s : Step) → FixedStep s → FixedStep (unless_not_text test c s)
text-fixed true c s h = h
text-fixed false c s h = tt

format-fixed : (newest : ℕ) (o : Option ℕ) (c : Contents) → IsFixed c.cases.items c.phases c.current → FixedStep (in_format newest o c)
format-fixed newest None c h = tt
format-fixed newest (Some n) c h = if-fixed (nat_le n newest) _ _ (λ is old. h) tt

outside-fixed : (at : ℕ) (ws : List Bytes) (c : Contents) → Fixed c → FixedStep (step_outside at ws c)
outside-fixed at ws c h =
    if-fixed (declares ws c) _ _ (λ is. formed-fixed (declaration_line c.format ws) ws (λ d. declared d c) c (λ d. declared-fixed d ws c is h))
    (formed-fixed (script_line c.format ws) ws (λ l. scripted l at c) c (λ l. scripted-fixed l at c h))

step_in-fixed : (p : Section) (at : ℕ) (line : Bytes) (ws : List Bytes) (c : Contents) → FixedIn p c → FixedStep (step_in p at line ws c)
step_in-fixed (section.Head newest) at line ws c h = format-fixed newest (header ws) c h
step_in-fixed section.Outside at line ws c h = text-fixed (is_utf8 line) c _ (outside-fixed at ws c h)
step_in-fixed (section.InType d) at line ws c h =
    text-fixed (is_utf8 line) c _ (formed-fixed (fitting d (type_line c.format ws)) ws (λ l. typed l d c) c (λ l. typed-fixed l d c h))
step_in-fixed (section.InGroup g) at line ws c h =
    text-fixed (is_utf8 line) c _ (formed-fixed (operation_line c.format ws) ws (λ l. operated l g c) c (λ l. operated-fixed l g c h))

step-fixed : (s : State) (at : ℕ) (line : Bytes) (ws : List Bytes) → FixedState s → FixedStep (step_words s at line ws)
step-fixed s at line ws h = if-fixed (is_skipped ws) (Ok s) (step_in s.place at line ws s.contents) (λ is. h) (step_in-fixed s.place at line ws s.contents h)

-- ---- the end of a file, and all lines
finished_in-fixed : (p : Section) (c : Contents) → FixedIn p c → IfOk (finished_in p c) MigratesAll
finished_in-fixed (section.Head newest) c h = tt
finished_in-fixed section.Outside c h = λ old. all-moved c.cases.items c.phases c.current (h old)
finished_in-fixed (section.InType d) c h = tt
finished_in-fixed (section.InGroup g) c h = tt

ended-all : (test : Bool) (s : State) → FixedState s → IfOk (if test then finished_in s.place s.contents else Err (why.Unended, s.contents)) MigratesAll
ended-all true s h = finished_in-fixed s.place s.contents h
ended-all false s h = tt

at_line-holds : {T : Type 0} (P : T → Type 0) (at : ℕ) (o : Result T (Why × Contents)) → IfOk o P → IfOk (at_line at o) P
at_line-holds P at (Ok x) h = h
at_line-holds P at (Err p) h = tt

read_from-all : (o : Result State Refused) (at : ℕ) (left : Bytes) (ls : List Bytes) → IfOk o FixedState → IfOk (read_from o at left ls) MigratesAll
read_from-all (Err r) at left ls h = tt
read_from-all (Ok s) at left [] h = at_line-holds MigratesAll at (finished s left) (ended-all (length left == 0) s h)
read_from-all (Ok s) at left (l ∷ ls) h =
    let line = without_return l in
    read_from-all (at_line at (step s at line)) (at + 1) left ls (at_line-holds FixedState at (step s at line) (step-fixed s at line (words_of line) h))

-- in a file of format 1 or 2 each migrate calls all cases of its type
pub file-moves : (newest : ℕ) (bytes : Bytes) (f : File) → file_up_to newest bytes ≡ Ok f → MigratesAll f
file-moves newest bytes f is =
    subst (λ (o : Result File Refused). IfOk o MigratesAll) is (read_from-all (Ok (opening newest)) 1 (lines_of bytes).left (lines_of bytes).ended (unbegun []))

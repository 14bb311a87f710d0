-- What a unit says, line by line: a type, a case, a line of an actor, or nothing that is called.
use Rattle.file_units.proofs.Common.{[], ℕ, ◌*◌, ◌++◌, ◌+◌, ◌<◌, ◌∙◌, ◌∷◌, ◌≡◌, ◌≤◌, a_case, a_deed, a_read, a_sync, a_type, a_write, act_of, acted, activity, actor_in, all_phases, an_actor, an_element, ap, arith, at_head, at_place, behind}
use Rattle.file_units.proofs.Common.{Bool, Bytes, case_declared, case_in, CaseDecl, changing, closes_block, conditional, Contents, counted, Declaration, declared, Deed, delete, Draft, element, ended, false, Fault, fault_of, first_phase}
use Rattle.file_units.proofs.Common.{Group, group_end, grouped, has_ended, IfOk, insert, installing, IsSmall, last_line, length, length-append, line_of, line_of_group, List, marks_of, migrate_of, migrating, migrations_with, move, NamedGap}
use Rattle.file_units.proofs.Common.{nat_lt, new_draft, next_phase, node_in, None, numbered, one_install, Op, op_in, open_lines, opens_and, opens_branch, opens_loop, opens_xor, operated, OperationLine, Option, option_or, outside, parallel}
use Rattle.file_units.proofs.Common.{phase_begun, place_of, read, refl, role_numbers, said_behind, said_by, said_effort, said_line, SaysBehind, SaysSome, SchemaModel, scripted, ScriptLine, Section, set_role, Some, State, Step, step_in}
use Rattle.file_units.proofs.Common.{subst, suc, sym, sync, to_change, to_create, to_end, to_install, to_migrate, to_start, to_withdraw, true, type_end, typed, TypeDecl, TypeLine, unread, unsync, unwrite, Value, whole, with_actor}
use Rattle.file_units.proofs.{Common.{with_case, with_element, with_elements, with_group, with_line, with_names, with_node, with_op, with_place, with_roles, with_script_line, with_type, write, zero}, ByForms.{group-by, known-by}}
use Rattle.file_units.proofs.ByForms.{outside-by, type-by, unless-by}
use Rattle.std.proofs.lemmas.Bool.{le-ltb, lt-ltb, ltb-false}
use Rattle.wsm_schema.specs.{Flat.cards_of, Sound.{block_fault, when}}
use Rattle.wsm_schema.specs.declared.faults.BlockFault.TheVariants.{Limit}
use Rattle.wsm_schema.specs.declared.faults.LimitKind.TheVariants.{Nodes}
use Rattle.wsm_sound.specs.declared.versions.CaseId.{CaseId}
use Rattle.wsm_sound.proofs.NoFaults.{is_sound}
use Rattle.file_model.specs.{Sizes.{act_effort, line_effort}, declared.files.Act.Act, declared.files.Line.Line, declared.states.Target.Target}
use Rattle.file_model.specs.declared.files.Act.TheVariants as act
use Rattle.file_model.specs.declared.states.Section.TheVariants as section
use Rattle.file_model.specs.declared.states.Target.TheVariants as target
use Rattle.file_facts.proofs.Lists.{place_within}
use Rattle.file_units.specs.declared.held.Said.{Said}
use Rattle.file_units.specs.declared.held.Said.TheVariants as say

-- ---- a type without a fault is small
first-none : {X : Type 0} (a b : Option X) → option_or a b ≡ None → a ≡ None
first-none None b h = refl
first-none (Some x) b h = absurd (cc)

when-none : {X : Type 0} (test : Bool) (x : X) → when test x ≡ None → test ≡ false
when-none true x h = absurd (cc)
when-none false x h = refl

few-nodes : (s : SchemaModel) → block_fault s ≡ None → nat_lt 1024 (length (cards_of s)) ≡ false
few-nodes s h = when-none _ (Limit Nodes) (first-none _ _ (first-none _ _ h))

pub sound-small : (t : TypeDecl) → fault_of t.schema ≡ None → IsSmall t
sound-small t h = ltb-false 1024 (length (cards_of t.schema)) (few-nodes t.schema (is_sound t.schema h).blocks)

-- ---- nothing was said yet, and no phase is open
pub record AreSame (types more_types : List TypeDecl) (cases more_cases : List CaseDecl) (current : Option (List Line)) : Type 0 where
  pub types_are : more_types ≡ types
  pub cases_are : more_cases ≡ cases
  pub none : current ≡ None

abbrev pub Same : Contents → Contents → Type 0
Same c d = AreSame c.types.items d.types.items c.cases.items d.cases.items d.current

-- each type has its name: none is named that is not there
abbrev pub HasTypes : Contents → Type 0
HasTypes c = length c.types.names ≤ length c.types.items

-- ---- behind so many lines of a unit
pub record Ended (k : ℕ) (first c : Contents) : Type 0 where
  pub before : k ≡ 0 → Same first c
  pub behind : 0 < k → SaysSome (3 * k) first c

abbrev pub SaysIn : ℕ → Contents → Section → Contents → Type 0
SaysIn k first (section.Head newest) c = ⊥
SaysIn k first section.Outside c = Ended k first c
SaysIn k first (section.InType d) c = Same first c
SaysIn k first (section.InGroup g) c = Same first c × (length g.ops + 1 ≤ k)

abbrev pub SaysState : ℕ → Contents → State → Type 0
SaysState k first s = SaysIn k first s.place s.contents

abbrev SaysStep : ℕ → Contents → Step → Type 0
SaysStep k first o = IfOk o (SaysState k first)

-- ---- what is said
ended-with : (k : ℕ) (first c : Contents) → 0 < k → SaysSome (3 * k) first c → Ended k first c
ended-with k first c some h = record { before = λ none. absurd (omega (arith, some, none)); behind = λ more. h }

no-line : (o : Option (List Line)) → o ≡ None → last_line (open_lines o) ≡ None
no-line o h = ap (λ (l : Option (List Line)). last_line (open_lines l)) h

says-other : (k : ℕ) (first c : Contents) → 0 < k → Same first c → Ended k first c
says-other k first c some h =
    ended-with k first c some (record {
      one = say.Other;
      says = record { line_is = no-line c.current h.none; types = h.types_are; cases = h.cases_are };
      effort = omega arith;
    })

says-phase : (k : ℕ) (first c : Contents) → 0 < k → Same first c → Ended k first (record c { phases = all_phases c; current = Some [] })
says-phase k first c some h =
    ended-with k first _ some (record { one = say.Other; says = record { line_is = refl; types = h.types_are; cases = h.cases_are }; effort = omega arith })

says-type : (k : ℕ) (n : Bytes) (s : SchemaModel) (first c : Contents) → 0 < k → fault_of s ≡ None → Same first c → Ended k first (with_type n s c)
says-type k n s first c some sound h =
    let t : TypeDecl = record { name = n; schema = s } in
    ended-with k first _ some (record {
      one = say.«Type»;
      says = record { line = no-line c.current h.none; one = t; types = ap (λ l. l ++ t ∷ []) h.types_are; small = sound-small t sound; cases = h.cases_are };
      effort = omega arith;
    })

says-case : (k : ℕ) (n : Bytes) (t : ℕ) (first c : Contents) → 0 < k → t < length c.types.items → Same first c → Ended k first (with_case n t c)
says-case k n t first c some there h =
    let d : CaseDecl = record { name = n; id = record { type_no = t; place = _ } } in
    ended-with k first (with_case n t c) some (record {
      one = say.Case;
      says = record {
        line = no-line c.current h.none;
        one = d;
        cases = ap (λ l. l ++ d ∷ []) h.cases_are;
        there = omega (arith, there, ap length h.types_are);
        types = h.types_are;
      };
      effort = omega arith;
    })

one-line : (l : Line) (o : Option (List Line)) → o ≡ None → last_line (open_lines o ++ l ∷ []) ≡ Some l
one-line l o h = ap (λ (m : Option (List Line)). last_line (open_lines m ++ l ∷ [])) h

says-line : (k : ℕ) (l : Line) (first c : Contents) → 0 < k → line_effort l ≤ 3 * k → Same first c → Ended k first (with_script_line l c)
says-line k l first c some less h =
    ended-with k first _ some (record {
      one = say.Line l;
      says = record { line_is = one-line l c.current h.none; types = h.types_are; cases = h.cases_are };
      effort = less;
    })

-- ---- declarations
case-says : (n : Bytes) (t : Option ℕ) (first c : Contents) → ((i : ℕ) → t ≡ Some i → i < length c.types.items) → Same first c → SaysStep 1 first (case_declared n t c)
case-says n None first c there h = tt
case-says n (Some t) first c there h = unless-by (SaysState 1 first) _ c (outside (with_case n t c)) (says-case 1 n t first c (omega arith) (there t refl) h)

begun-says : (first c : Contents) → Same first c → SaysStep 1 first (phase_begun c)
begun-says first c h = unless-by (SaysState 1 first) _ c _ (says-phase 1 first c (omega arith) h)

declared-says : (d : Declaration) (first c : Contents) → HasTypes c → Same first c → SaysStep 1 first (declared d c)
declared-says (a_type n) first c has h = unless-by (SaysState 1 first) _ c (at_place (section.InType (new_draft n)) c) h
declared-says (an_actor n roles) first c has h =
    let d = with_actor n (role_numbers c.roles roles) (with_roles roles c) in
    unless-by (SaysState 1 first) _ c (outside d) (says-other 1 first d (omega arith) h)
declared-says (a_case n kind) first c has h =
    case-says n (place_of c.types.names kind) first c (λ i is. omega (arith, has, place_within c.types.names kind i is)) h
declared-says first_phase first c has h = begun-says first c h

-- ---- lines of a type
ended-says : (k : ℕ) (n : Bytes) (s : SchemaModel) (f : Option Fault) (first c : Contents) → 0 < k → fault_of s ≡ f → Same first c → SaysStep k first (ended n s f c)
ended-says k n s None first c some e h = says-type k n s first c some e h
ended-says k n s (Some f) first c some e h = tt

typed-says : (k : ℕ) (l : TypeLine) (d : Draft) (first c : Contents) → 0 < k → Same first c → SaysStep k first (typed l d c)
typed-says k (activity n role) d first c some h = h
typed-says k (opens_and a b) d first c some h = unless-by (SaysState k first) _ c _ h
typed-says k (opens_xor a b role) d first c some h = unless-by (SaysState k first) _ c _ h
typed-says k (opens_branch code) d first c some h = h
typed-says k (opens_loop a b role) d first c some h = unless-by (SaysState k first) _ c _ h
typed-says k closes_block d first c some h = h
typed-says k (a_sync a b) d first c some h = unless-by (SaysState k first) _ (with_node b (with_node a c)) _ h
typed-says k (an_element e kind) d first c some h = unless-by (SaysState k first) _ (with_element e c) _ h
typed-says k (a_read n e mandatory) d first c some h = unless-by (SaysState k first) _ (with_element e (with_node n c)) _ h
typed-says k (a_write n e) d first c some h = unless-by (SaysState k first) _ (with_element e (with_node n c)) _ h
typed-says k type_end d first c some h = ended-says k d.name (whole d) (fault_of (whole d)) first c some refl h

-- ---- lines of actors
with_line-says : (at actor : ℕ) (a : Act) (first c : Contents) → act_effort a ≡ 0 → Same first c → SaysStep 1 first (with_line at actor a c)
with_line-says at actor a first c none h =
    let l = line_of at actor a c in
    unless-by (SaysState 1 first) _ c (outside (with_script_line l (counted c))) (says-line 1 l first (counted c) (omega arith) (omega (arith, none)) h)

migrating-says : (at actor t : ℕ) (first c : Contents) → Same first c → SaysStep 1 first (migrating at actor t c)
migrating-says at actor t first c h =
    let l = line_of at actor (migrate_of t c) c in
    let d = counted (record c { counts = record c.counts { migrations = migrations_with t c } }) in
    unless-by (SaysState 1 first) _ c (outside (with_script_line l d)) (says-line 1 l first d (omega arith) (omega arith) h)

changing-says : (at actor : ℕ) (id : CaseId) (first c : Contents) → Same first c → SaysStep 1 first (changing at actor id c)
changing-says at actor id first c h = unless-by (SaysState 1 first) _ c (with_group at actor (target.Case id) c) (h, omega arith)

installing-says : (at actor t : ℕ) (first c : Contents) → Same first c → SaysStep 1 first (installing at actor t c)
installing-says at actor t first c h = unless-by (SaysState 1 first) _ c (with_group at actor (target.«Type» t) (one_install c)) (h, omega arith)

elements-same : (ws : List (Bytes × Value)) (first c : Contents) → Same first c → Same first (with_elements ws c)
elements-same [] first c h = h
elements-same (w ∷ ws) first c h = elements-same ws first (with_element w.0 c) h

acted-says : (d : Deed) (actor at : ℕ) (first c : Contents) → Same first c → SaysStep 1 first (acted d actor at c)
acted-says (to_create n) actor at first c h = known-by (SaysState 1 first) (case_in n c) _ c (λ id. with_line-says at actor (act.Create id) first c refl h)
acted-says (to_start n node) actor at first c h =
    known-by (SaysState 1 first) (case_in n c) _ c (λ id. with_line-says at actor (act.Start id (node_in node c)) first (with_node node c) refl h)
acted-says (to_withdraw n node) actor at first c h =
    known-by (SaysState 1 first) (case_in n c) _ c (λ id. with_line-says at actor (act.Withdraw id (node_in node c)) first (with_node node c) refl h)
acted-says (to_end n node choice writes) actor at first c h =
    let c1 = with_node node c in
    known-by (SaysState 1 first) (case_in n c) _ c
    (λ id. with_line-says at actor (act.End id (node_in node c) choice (numbered writes c1)) first (with_elements writes c1) refl (elements-same writes first c1 h))
acted-says (to_change n) actor at first c h = known-by (SaysState 1 first) (case_in n c) _ c (λ id. changing-says at actor id first c h)
acted-says (to_install n) actor at first c h = known-by (SaysState 1 first) (place_of c.types.names n) _ c (λ t. installing-says at actor t first c h)
acted-says (to_migrate n) actor at first c h = known-by (SaysState 1 first) (place_of c.types.names n) _ c (λ t. migrating-says at actor t first c h)

scripted-says : (l : ScriptLine) (at : ℕ) (first c : Contents) → Same first c → SaysStep 1 first (scripted l at c)
scripted-says next_phase at first c h = begun-says first c h
scripted-says (a_deed a d) at first c h = known-by (SaysState 1 first) (actor_in a c) _ c (λ actor. acted-says d actor at first c h)

-- ---- lines of a group
place-same : (p : NamedGap) (first c : Contents) → Same first c → Same first (with_place p c)
place-same (behind n) first c h = h
place-same (at_head n code) first c h = h

names-same : (l : OperationLine) (first c : Contents) → Same first c → Same first (with_names l c)
names-same (insert n r p) first c h = place-same p first (with_node n c) h
names-same (parallel n r s j a b) first c h = h
names-same (conditional n r s j p) first c h = place-same p first (with_node j (with_node s (with_node n c))) h
names-same (delete n) first c h = h
names-same (move n p) first c h = place-same p first (with_node n c) h
names-same (sync a b) first c h = h
names-same (unsync a b) first c h = h
names-same (element e k) first c h = h
names-same (read n e m) first c h = h
names-same (unread n e) first c h = h
names-same (write n e) first c h = h
names-same (unwrite n e) first c h = h
names-same (set_role n r) first c h = h
names-same group_end first c h = h

group-effort : (t : Target) (ops : List Op) → act_effort (act_of t ops) ≡ 3 * length ops
group-effort (target.Case id) ops = refl
group-effort (target.«Type» t) ops = refl

grouped-says : (k : ℕ) (o : Option Op) (g : Group) (first c : Contents) → length g.ops + 1 ≤ k → Same first c → SaysStep (k + 1) first (grouped o g c)
grouped-says k None g first c few h =
    says-line (k + 1) (line_of_group g) first c (omega arith) (omega (arith, few, group-effort g.target g.ops)) h
grouped-says k (Some o) g first c few h =
    unless-by (SaysState (k + 1) first) _ c (at_place (section.InGroup (with_op o g)) c) (h, omega (arith, few, length-append g.ops (o ∷ [])))

operated-says : (k : ℕ) (l : OperationLine) (g : Group) (first c : Contents) → length g.ops + 1 ≤ k → Same first c → SaysStep (k + 1) first (operated l g c)
operated-says k l g first c few h = grouped-says k (op_in l c) g first (with_names l c) few (names-same l first c h)

-- ---- a line
outside-says : (at : ℕ) (line : Bytes) (ws : List Bytes) (first c : Contents) → HasTypes c → Same first c → SaysStep 1 first (step_in section.Outside at line ws c)
outside-says at line ws first c has h =
    outside-by (SaysState 1 first) at line ws c (λ d. declared-says d first c has h) (λ l. scripted-says l at first c h)

pub step-says : (k : ℕ) (p : Section) (at : ℕ) (line : Bytes) (ws : List Bytes) (first c : Contents) → has_ended k p ≡ false → HasTypes c → SaysIn k first p c → SaysStep (k + 1) first (step_in p at line ws c)
step-says k (section.Head newest) at line ws first c goes_on has h = absurd h
step-says k section.Outside at line ws first c goes_on has h =
    let none : k ≡ 0 = omega (arith, ltb-false 0 k goes_on) in
    let one : 1 ≡ k + 1 = omega (arith, none) in
    subst (λ n. SaysStep n first (step_in section.Outside at line ws c)) one (outside-says at line ws first c has (h.before none))
step-says k (section.InType d) at line ws first c goes_on has h = type-by (SaysState (k + 1) first) d at line ws c (λ l. typed-says (k + 1) l d first c (omega arith) h)
step-says k (section.InGroup g) at line ws first c goes_on has h = group-by (SaysState (k + 1) first) g at line ws c (λ l. operated-says k l g first c h.1 h.0)

-- ---- behind all lines
pub said-some : (k most : ℕ) (first c : Contents) → 3 * k ≤ most → Ended k first c → SaysSome most first c
said-some zero most first c fits h =
    let same = h.before refl in
    record { one = say.Other; says = record { line_is = no-line c.current same.none; types = same.types_are; cases = same.cases_are }; effort = omega arith }
said-some (suc k) most first c fits h =
    let some = h.behind (omega arith) in
    record { one = some.one; says = some.says; effort = omega (arith, fits, some.effort) }

-- what there is more of tells what was said
type-said : (o : Option Line) (m n : ℕ) (more : Bool) → o ≡ None → m < n → said_by o (nat_lt m n) more ≡ say.«Type»
type-said None m n more none less = ap (λ test. said_by None test more) (lt-ltb m n less)
type-said (Some l) m n more none less = absurd (cc)

case-said : (o : Option Line) (m n k j : ℕ) → o ≡ None → n ≤ m → k < j → said_by o (nat_lt m n) (nat_lt k j) ≡ say.Case
case-said None m n k j none few less =
    ap (λ test. said_by None test (nat_lt k j)) (le-ltb m n few) ∙ ap (λ test. said_by None false test) (lt-ltb k j less)
case-said (Some l) m n k j none few less = absurd (cc)

other-said : (o : Option Line) (m n k j : ℕ) → o ≡ None → n ≤ m → j ≤ k → said_by o (nat_lt m n) (nat_lt k j) ≡ say.Other
other-said None m n k j none few fewer =
    ap (λ test. said_by None test (nat_lt k j)) (le-ltb m n few) ∙ ap (λ test. said_by None false test) (le-ltb k j fewer)
other-said (Some l) m n k j none few fewer = absurd (cc)

behind-said : (c d : Contents) (one : Said) → SaysBehind c d one → said_behind (marks_of c) d ≡ one
behind-said c d say.«Type» h =
    type-said (said_line d) (length c.types.items) (length d.types.items) _ h.line (omega (arith, ap length h.types, length-append c.types.items (h.one ∷ [])))
behind-said c d say.Case h =
    case-said (said_line d) (length c.types.items) (length d.types.items) (length c.cases.items) (length d.cases.items) h.line (omega (arith, ap length h.types))
    (omega (arith, ap length h.cases, length-append c.cases.items (h.one ∷ [])))
behind-said c d (say.Line l) h = ap (λ o. said_by o (nat_lt (length c.types.items) (length d.types.items)) (nat_lt (length c.cases.items) (length d.cases.items))) h.line_is
behind-said c d say.Other h =
    other-said (said_line d) (length c.types.items) (length d.types.items) (length c.cases.items) (length d.cases.items) h.line_is (omega (arith, ap length h.types))
    (omega (arith, ap length h.cases))

pub says-behind : (most : ℕ) (c d : Contents) → SaysSome most c d → SaysBehind c d (said_behind (marks_of c) d)
says-behind most c d h = subst (λ one. SaysBehind c d one) (sym (behind-said c d h.one h.says)) h.says

pub effort-behind : (most : ℕ) (c d : Contents) → SaysSome most c d → said_effort (said_behind (marks_of c) d) ≤ most
effort-behind most c d h = subst (λ one. said_effort one ≤ most) (sym (behind-said c d h.one h.says)) h.effort

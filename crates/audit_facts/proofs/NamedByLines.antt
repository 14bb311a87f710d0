-- What holds of names and texts behind lines of each kind.
use Rattle.audit_facts.proofs.Common.{[], ℕ, ◌∷◌, ◌≡◌, a_case, a_deed, a_read, a_sync, a_type, a_write, act_of, acted, activity, actor_in, AllRows, an_actor, an_element, at_head, at_place, behind, Bool, Bytes, case_declared, case_in}
use Rattle.audit_facts.proofs.Common.{closes_block, conditional, Contents, counted, Declaration, declared, Deed, delete, Draft, element, ended, false, first_phase, group_end, grouped, HasOneLineWrites, insert, is_listed, IsName}
use Rattle.audit_facts.proofs.Common.{IsOneLineWrite, line_of, line_of_group, List, migrate_of, migrating, migrations_with, move, NamedGap, next_phase, node_in, None, numbered, one_install, op_in, opens_and, opens_branch, opens_loop}
use Rattle.audit_facts.proofs.Common.{opens_xor, operated, OperationLine, Option, outside, parallel, phase_begun, place_of, read, refl, role_numbers, RoleWord, scripted, ScriptLine, set_role, Some, sync, to_change, to_create, to_end}
use Rattle.audit_facts.proofs.Common.{to_install, to_migrate, to_start, to_withdraw, true, twice, type_end, typed, TypeLine, unread, unsync, unwrite, Value, whole, with_actor, with_case, with_element, with_elements, with_group, with_line}
use Rattle.audit_facts.proofs.{Common.{with_names, with_node, with_op, with_place, with_role, with_roles, with_script_line, write}, Named.{Named, NamedStep, actor-named, element-named, found-named, node-named, phases-named, role-named}}
use Rattle.audit_facts.proofs.{Named.{roles-named, script-named, unless-named}, NamedForms.{NamedRole, NamedDeclaration, NamedDeed, NamedOperation, NamedPlace, NamedScriptLine, NamedTypeLine}, Words.IsWrite}
use Rattle.wsm_ops.specs.declared.operations.Op.{Op}
use Rattle.wsm_schema.specs.SchemaModel.{SchemaModel}
use Rattle.wsm_sound.specs.{Faults.fault_of, declared.faults.Fault.Fault}
use Rattle.file_facts.proofs.Held.{neither}
use Rattle.file_model.specs.{declared.files.Act.Act, declared.states.Group.Group, declared.states.Target.Target}
use Rattle.file_model.specs.declared.files.Act.TheVariants as act
use Rattle.file_model.specs.declared.states.Section.TheVariants as section
use Rattle.file_model.specs.declared.states.Target.TheVariants as target

-- ---- declarations
not-twice : (test : Bool) → twice test ≡ None → test ≡ false
not-twice true h = absurd (cc)
not-twice false h = refl

case-named : (n : Bytes) (t : Option ℕ) (c : Contents) → Named c → NamedStep (case_declared n t c)
case-named n None c h = tt
case-named n (Some t) c h = unless-named _ c (outside (with_case n t c)) (λ none. h)

begun-named : (c : Contents) → Named c → NamedStep (phase_begun c)
begun-named c h = unless-named _ c _ (λ none. record {
  nodes = h.nodes;
  elements = h.elements;
  roles = h.roles;
  actors = h.actors;
  names = h.names;
  apart = h.apart;
  writes = phases-named c h;
  written = tt;
})

pub declared-named : (d : Declaration) (c : Contents) → NamedDeclaration d → Named c → NamedStep (declared d c)
declared-named (a_type n) c named h = unless-named _ c _ (λ none. h)
declared-named (an_actor n roles) c named h =
    unless-named _ c (outside (with_actor n (role_numbers c.roles roles) (with_roles roles c))) (λ none.
    actor-named n (role_numbers c.roles roles) (with_roles roles c) named.0 (not-twice (is_listed n c.actors.names) (neither _ _ none).0) (roles-named roles c named.1 h))
declared-named (a_case n kind) c named h = case-named n (place_of c.types.names kind) c h
declared-named first_phase c named h = begun-named c h

-- ---- lines of a type
ended-named : (n : Bytes) (s : SchemaModel) (f : Option Fault) (c : Contents) → Named c → NamedStep (ended n s f c)
ended-named n s None c h = h
ended-named n s (Some f) c h = tt

two-nodes : (a b : Bytes) (c : Contents) → IsName a × IsName b → Named c → Named (with_node b (with_node a c))
two-nodes a b c named h = node-named b (with_node a c) named.1 (node-named a c named.0 h)

nodes-role : (a b : Bytes) (role : RoleWord) (c : Contents) → IsName a × IsName b × NamedRole role → Named c → Named (with_role role (with_node b (with_node a c)))
nodes-role a b role c named h = role-named role (with_node b (with_node a c)) named.2 (two-nodes a b c (named.0, named.1) h)

node-role : (n : Bytes) (role : RoleWord) (c : Contents) → IsName n × NamedRole role → Named c → Named (with_role role (with_node n c))
node-role n role c named h = role-named role (with_node n c) named.1 (node-named n c named.0 h)

node-element : (n e : Bytes) (c : Contents) → IsName n × IsName e → Named c → Named (with_element e (with_node n c))
node-element n e c named h = element-named e (with_node n c) named.1 (node-named n c named.0 h)

pub typed-named : (l : TypeLine) (d : Draft) (c : Contents) → NamedTypeLine l → Named c → NamedStep (typed l d c)
typed-named (activity n role) d c named h = node-role n role c named h
typed-named (opens_and a b) d c named h = unless-named _ c _ (λ none. two-nodes a b c named h)
typed-named (opens_xor a b role) d c named h = unless-named _ c _ (λ none. nodes-role a b role c named h)
typed-named (opens_branch code) d c named h = h
typed-named (opens_loop a b role) d c named h = unless-named _ c _ (λ none. nodes-role a b role c named h)
typed-named closes_block d c named h = h
typed-named (a_sync a b) d c named h = unless-named _ _ _ (λ none. two-nodes a b c named h)
typed-named (an_element e k) d c named h = unless-named _ _ _ (λ none. element-named e c named h)
typed-named (a_read n e mandatory) d c named h = unless-named _ _ _ (λ none. node-element n e c named h)
typed-named (a_write n e) d c named h = unless-named _ _ _ (λ none. node-element n e c named h)
typed-named type_end d c named h = ended-named d.name (whole d) (fault_of (whole d)) c h

-- ---- lines of a phase
line-named : (at actor : ℕ) (a : Act) (c : Contents) → HasOneLineWrites a → Named c → NamedStep (with_line at actor a c)
line-named at actor a c one h =
    unless-named _ c (outside (with_script_line (line_of at actor a c) (counted c))) (λ none. script-named (line_of at actor a c) (counted c) one h)

migrating-named : (at actor t : ℕ) (c : Contents) → Named c → NamedStep (migrating at actor t c)
migrating-named at actor t c h =
    let after = counted (record c { counts = record c.counts { migrations = migrations_with t c } }) in
    unless-named _ c (outside (with_script_line (line_of at actor (migrate_of t c) c) after)) (λ none. script-named (line_of at actor (migrate_of t c) c) after tt h)

elements-named : (ws : List (Bytes × Value)) (c : Contents) → AllRows IsWrite ws → Named c → Named (with_elements ws c)
elements-named [] c all h = h
elements-named (w ∷ ws) c all h = elements-named ws (with_element w.0 c) all.1 (element-named w.0 c all.0.0 h)

numbered-one : (ws : List (Bytes × Value)) (c : Contents) → AllRows IsWrite ws → AllRows IsOneLineWrite (numbered ws c)
numbered-one [] c all = tt
numbered-one (w ∷ ws) c all = (all.0.1, numbered-one ws (with_element w.0 c) all.1)

acted-named : (d : Deed) (actor at : ℕ) (c : Contents) → NamedDeed d → Named c → NamedStep (acted d actor at c)
acted-named (to_create n) actor at c named h = found-named (case_in n c) _ c (λ id. line-named at actor (act.Create id) c tt h)
acted-named (to_start n node) actor at c named h =
    found-named (case_in n c) _ c (λ id. line-named at actor (act.Start id (node_in node c)) (with_node node c) tt (node-named node c named h))
acted-named (to_withdraw n node) actor at c named h =
    found-named (case_in n c) _ c (λ id. line-named at actor (act.Withdraw id (node_in node c)) (with_node node c) tt (node-named node c named h))
acted-named (to_end n node choice writes) actor at c named h =
    let c1 = with_node node c in
    found-named (case_in n c) _ c (λ id.
    line-named at actor (act.End id (node_in node c) choice (numbered writes c1)) (with_elements writes c1) (numbered-one writes c1 named.1) (elements-named writes c1 named.1 (node-named node c named.0 h)))
acted-named (to_change n) actor at c named h = found-named (case_in n c) _ c (λ id. unless-named _ c (with_group at actor (target.Case id) c) (λ none. h))
acted-named (to_install n) actor at c named h =
    found-named (place_of c.types.names n) _ c (λ t. unless-named _ c (with_group at actor (target.«Type» t) (one_install c)) (λ none. h))
acted-named (to_migrate n) actor at c named h = found-named (place_of c.types.names n) _ c (λ t. migrating-named at actor t c h)

pub scripted-named : (l : ScriptLine) (at : ℕ) (c : Contents) → NamedScriptLine l → Named c → NamedStep (scripted l at c)
scripted-named next_phase at c named h = begun-named c h
scripted-named (a_deed a d) at c named h = found-named (actor_in a c) _ c (λ actor. acted-named d actor at c named h)

-- ---- lines of a group
place-named : (p : NamedGap) (c : Contents) → NamedPlace p → Named c → Named (with_place p c)
place-named (behind n) c named h = node-named n c named h
place-named (at_head n code) c named h = node-named n c named h

names-named : (l : OperationLine) (c : Contents) → NamedOperation l → Named c → Named (with_names l c)
names-named (insert n r p) c named h =
    let (is_n, is_r, is_p) = named in
    role-named r (with_place p (with_node n c)) is_r (place-named p (with_node n c) is_p (node-named n c is_n h))
names-named (parallel n r s j a b) c named h =
    let (is_n, is_r, is_s, is_j, is_a, is_b) = named in
    let c3 = with_node j (with_node s (with_node n c)) in
    role-named r (with_node b (with_node a c3)) is_r (two-nodes a b c3 (is_a, is_b) (two-nodes s j (with_node n c) (is_s, is_j) (node-named n c is_n h)))
names-named (conditional n r s j p) c named h =
    let (is_n, is_r, is_s, is_j, is_p) = named in
    let c3 = with_node j (with_node s (with_node n c)) in
    role-named r (with_place p c3) is_r (place-named p c3 is_p (two-nodes s j (with_node n c) (is_s, is_j) (node-named n c is_n h)))
names-named (delete n) c named h = node-named n c named h
names-named (move n p) c named h = place-named p (with_node n c) named.1 (node-named n c named.0 h)
names-named (sync a b) c named h = two-nodes a b c named h
names-named (unsync a b) c named h = two-nodes a b c named h
names-named (element e k) c named h = element-named e c named h
names-named (read n e m) c named h = node-element n e c named h
names-named (unread n e) c named h = node-element n e c named h
names-named (write n e) c named h = node-element n e c named h
names-named (unwrite n e) c named h = node-element n e c named h
names-named (set_role n r) c named h = node-role n r c named h
names-named group_end c named h = h

-- a group writes no value
act-writes : (t : Target) (ops : List Op) → HasOneLineWrites (act_of t ops)
act-writes (target.Case id) ops = tt
act-writes (target.«Type» t) ops = tt

grouped-named : (o : Option Op) (g : Group) (c : Contents) → Named c → NamedStep (grouped o g c)
grouped-named None g c h = script-named (line_of_group g) c (act-writes g.target g.ops) h
grouped-named (Some o) g c h = unless-named _ c (at_place (section.InGroup (with_op o g)) c) (λ none. h)

pub operated-named : (l : OperationLine) (g : Group) (c : Contents) → NamedOperation l → Named c → NamedStep (operated l g c)
operated-named l g c named h = grouped-named (op_in l c) g (with_names l c) (names-named l c named h)

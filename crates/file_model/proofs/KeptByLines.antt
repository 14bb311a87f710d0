-- What holds of the state behind each form of a line.
use Rattle.file_model.proofs.Common.{[], ℕ, ◌*◌, ◌<◌, ◌∷◌, ◌≡◌, ◌≤◌, a_case, a_deed, a_read, a_sync, a_type, a_write, Act, act_effort, act_of, acted, activity, actor_in, an_actor, an_element, arith, at_head, at_place, behind, Bool, Bytes}
use Rattle.file_model.proofs.Common.{case_declared, case_in, changing, closes_block, conditional, Contents, counted, Declaration, declared, Deed, delete, Draft, element, ended, false, Fault, fault_of, first_phase, Group, group_end, grouped}
use Rattle.file_model.proofs.Common.{insert, installing, is_listed, leb-false, length, line_of, line_of_group, List, migrate_of, migrating, migrations_with, move, NamedGap, nat_le, nat_lt, new_draft, next_phase, node_in, None, numbered}
use Rattle.file_model.proofs.Common.{one_install, Op, op_in, opens_and, opens_branch, opens_loop, opens_xor, operated, OperationLine, Option, option_or, outside, over, parallel, phase_begun, place_of, read, refl, SchemaModel, scripted}
use Rattle.file_model.proofs.Common.{ScriptLine, set_role, Some, sync, to_change, to_create, to_end, to_install, to_migrate, to_start, to_withdraw, true, twice, type_end, typed, TypeLine, unless, unread, unsync, unwrite, Value, whole}
use Rattle.file_model.proofs.Common.{with_element, with_elements, with_group, with_line, with_names, with_node, with_op, with_place, with_script_line, write}
use Rattle.std.proofs.Common.{length-append}
use Rattle.wsm_sound.specs.declared.versions.CaseId.{CaseId}
use Rattle.file_model.specs.declared.files.Act.TheVariants as act
use Rattle.file_model.specs.declared.refusals.FileLimit.TheVariants as limit
use Rattle.file_model.specs.declared.states.Target.{Target}
use Rattle.file_model.specs.declared.states.Target.TheVariants as target
use Rattle.file_model.specs.declared.states.Section.TheVariants as section
use Rattle.file_model.proofs.Kept.{CountsKept, KeptIn, KeptState, KeptStep, unless-kept, within-kept, within_both-kept, known-kept, type-kept, phase-kept, counted-kept, line-kept}

-- ---- declarations
begun_phase-kept : (c : Contents) → CountsKept c 0 → KeptStep (phase_begun c)
begun_phase-kept c h = unless-kept _ c _ (phase-kept c h)

case_declared-kept : (n : Bytes) (t : Option ℕ) (c : Contents) → CountsKept c 0 → KeptStep (case_declared n t c)
case_declared-kept n None c h = tt
case_declared-kept n (Some t) c h = unless-kept _ c _ h

begun-kept : (n : Bytes) (listed : Bool) (c : Contents) → CountsKept c 0 →
    KeptStep (unless (option_or (twice listed) (over (nat_le c.limits.types (length c.types.items)) limit.Types)) c (at_place (section.InType (new_draft n)) c))
begun-kept n true c h = tt
begun-kept n false c h = within-kept (nat_le c.limits.types (length c.types.items)) limit.Types c (at_place (section.InType (new_draft n)) c) (λ below. (h, leb-false c.limits.types (length c.types.items) below))

pub declared-kept : (d : Declaration) (c : Contents) → CountsKept c 0 → KeptStep (declared d c)
declared-kept (a_type n) c h = begun-kept n (is_listed n c.types.names) c h
declared-kept (an_actor n roles) c h = unless-kept _ c _ h
declared-kept (a_case n kind) c h = case_declared-kept n (place_of c.types.names kind) c h
declared-kept first_phase c h = begun_phase-kept c h

-- ---- lines of a type
ended-kept : (n : Bytes) (s : SchemaModel) (f : Option Fault) (c : Contents) → fault_of s ≡ f → CountsKept c 0 → length c.types.items < c.limits.types → KeptStep (ended n s f c)
ended-kept n s None c e h below = type-kept n s c e h below
ended-kept n s (Some f) c e h below = tt

pub typed-kept : (l : TypeLine) (d : Draft) (c : Contents) → KeptIn (section.InType d) c → KeptStep (typed l d c)
typed-kept (activity n role) d c h = h
typed-kept (opens_and a b) d c h = unless-kept _ c _ h
typed-kept (opens_xor a b role) d c h = unless-kept _ c _ h
typed-kept (opens_branch code) d c h = h
typed-kept (opens_loop a b role) d c h = unless-kept _ c _ h
typed-kept closes_block d c h = h
typed-kept (a_sync a b) d c h = unless-kept _ (with_node b (with_node a c)) _ h
typed-kept (an_element e k) d c h = unless-kept _ (with_element e c) _ h
typed-kept (a_read n e mandatory) d c h = unless-kept _ (with_element e (with_node n c)) _ h
typed-kept (a_write n e) d c h = unless-kept _ (with_element e (with_node n c)) _ h
typed-kept type_end d c h = ended-kept d.name (whole d) (fault_of (whole d)) c refl h.0 h.1

-- ---- lines of a phase
one_line : (at actor : ℕ) (a : Act) (c : Contents) → act_effort a ≡ 0 → nat_le 60000 c.counts.lines ≡ false → CountsKept c 0 →
    CountsKept (with_script_line (line_of at actor a c) (counted c)) 0
one_line at actor a c none below h = line-kept (line_of at actor a c) (counted c) 1 (omega (arith, none)) (counted-kept 1 c (omega arith) below h)

with_line-kept : (at actor : ℕ) (a : Act) (c : Contents) → act_effort a ≡ 0 → CountsKept c 0 → KeptStep (with_line at actor a c)
with_line-kept at actor a c none h =
    within-kept (nat_le 60000 c.counts.lines) limit.Lines c (outside (with_script_line (line_of at actor a c) (counted c))) (λ below. one_line at actor a c none below h)

with_group-kept : (at actor : ℕ) (t : Target) (c : Contents) → nat_le 60000 c.counts.lines ≡ false → CountsKept c 0 → KeptState (with_group at actor t c)
with_group-kept at actor t c below h = (counted-kept 769 c (omega arith) below h, omega arith)

changing-kept : (at actor : ℕ) (id : CaseId) (c : Contents) → CountsKept c 0 → KeptStep (changing at actor id c)
changing-kept at actor id c h =
    within-kept (nat_le 60000 c.counts.lines) limit.Lines c (with_group at actor (target.Case id) c) (λ below. with_group-kept at actor (target.Case id) c below h)

installing-kept : (at actor t : ℕ) (c : Contents) → CountsKept c 0 → KeptStep (installing at actor t c)
installing-kept at actor t c h =
    within_both-kept (nat_le 60000 c.counts.lines) limit.Lines (over (nat_le 1024 c.counts.installs) limit.Installs) c (with_group at actor (target.«Type» t) (one_install c))
    (λ below. with_group-kept at actor (target.«Type» t) (one_install c) below h)

migrating-kept : (at actor t : ℕ) (c : Contents) → CountsKept c 0 → KeptStep (migrating at actor t c)
migrating-kept at actor t c h =
    within_both-kept (nat_le 60000 c.counts.lines) limit.Lines (over (nat_lt c.limits.migrations (migrations_with t c)) limit.Migrations) c
    (outside (with_script_line (line_of at actor (migrate_of t c) c) (counted (record c { counts = record c.counts { migrations = migrations_with t c } }))))
    (λ below. one_line at actor (migrate_of t c) c refl below h)

elements-kept : (ws : List (Bytes × Value)) (c : Contents) (begun : ℕ) → CountsKept c begun → CountsKept (with_elements ws c) begun
elements-kept [] c begun h = h
elements-kept (w ∷ ws) c begun h = elements-kept ws (with_element w.0 c) begun h

acted-kept : (d : Deed) (actor at : ℕ) (c : Contents) → CountsKept c 0 → KeptStep (acted d actor at c)
acted-kept (to_create n) actor at c h = known-kept (case_in n c) _ c (λ id. with_line-kept at actor (act.Create id) c refl h)
acted-kept (to_start n node) actor at c h =
    known-kept (case_in n c) _ c (λ id. with_line-kept at actor (act.Start id (node_in node c)) (with_node node c) refl h)
acted-kept (to_withdraw n node) actor at c h =
    known-kept (case_in n c) _ c (λ id. with_line-kept at actor (act.Withdraw id (node_in node c)) (with_node node c) refl h)
acted-kept (to_end n node choice writes) actor at c h =
    let c1 = with_node node c in
    known-kept (case_in n c) _ c (λ id.
    with_line-kept at actor (act.End id (node_in node c) choice (numbered writes c1)) (with_elements writes c1) refl (elements-kept writes c1 0 h))
acted-kept (to_change n) actor at c h = known-kept (case_in n c) _ c (λ id. changing-kept at actor id c h)
acted-kept (to_install n) actor at c h = known-kept (place_of c.types.names n) _ c (λ t. installing-kept at actor t c h)
acted-kept (to_migrate n) actor at c h = known-kept (place_of c.types.names n) _ c (λ t. migrating-kept at actor t c h)

pub scripted-kept : (l : ScriptLine) (at : ℕ) (c : Contents) → CountsKept c 0 → KeptStep (scripted l at c)
scripted-kept next_phase at c h = begun_phase-kept c h
scripted-kept (a_deed a d) at c h = known-kept (actor_in a c) _ c (λ actor. acted-kept d actor at c h)

-- ---- lines of a group
place-kept : (p : NamedGap) (c : Contents) (begun : ℕ) → CountsKept c begun → CountsKept (with_place p c) begun
place-kept (behind n) c begun h = h
place-kept (at_head n code) c begun h = h

names-kept : (l : OperationLine) (c : Contents) (begun : ℕ) → CountsKept c begun → CountsKept (with_names l c) begun
names-kept (insert n r p) c begun h = place-kept p (with_node n c) begun h
names-kept (parallel n r s j a b) c begun h = h
names-kept (conditional n r s j p) c begun h = place-kept p (with_node j (with_node s (with_node n c))) begun h
names-kept (delete n) c begun h = h
names-kept (move n p) c begun h = place-kept p (with_node n c) begun h
names-kept (sync a b) c begun h = h
names-kept (unsync a b) c begun h = h
names-kept (element e k) c begun h = h
names-kept (read n e m) c begun h = h
names-kept (unread n e) c begun h = h
names-kept (write n e) c begun h = h
names-kept (unwrite n e) c begun h = h
names-kept (set_role n r) c begun h = h
names-kept group_end c begun h = h

group_effort : (t : Target) (ops : List Op) → act_effort (act_of t ops) ≡ 3 * length ops
group_effort (target.Case id) ops = refl
group_effort (target.«Type» t) ops = refl

-- an open group was counted with all the operations that it may have
closed-kept : (g : Group) (c : Contents) → CountsKept c 769 → length g.ops ≤ 256 → CountsKept (with_script_line (line_of_group g) c) 0
closed-kept g c h fits = line-kept (line_of_group g) c 769 (omega (arith, fits, group_effort g.target g.ops)) h

grouped-kept : (o : Option Op) (g : Group) (c : Contents) → CountsKept c 769 → length g.ops ≤ 256 → KeptStep (grouped o g c)
grouped-kept None g c h fits = closed-kept g c h fits
grouped-kept (Some o) g c h fits =
    within-kept (nat_le 256 (length g.ops)) limit.Ops c (at_place (section.InGroup (with_op o g)) c)
    (λ below. (h, omega (arith, leb-false 256 (length g.ops) below, length-append g.ops (o ∷ []))))

pub operated-kept : (l : OperationLine) (g : Group) (c : Contents) → CountsKept c 769 → length g.ops ≤ 256 → KeptStep (operated l g c)
operated-kept l g c h fits = grouped-kept (op_in l c) g (with_names l c) (names-kept l c 769 h) fits

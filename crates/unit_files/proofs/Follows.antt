-- A line makes of what is held what it makes of what was read of a file, but where a limit cuts that off.
use Rattle.unit_files.proofs.Common.{[], ℕ, ◌++◌, ◌+◌, ◌==◌, ◌∙◌, ◌∷◌, ◌≡◌, ◌≤◌, ◌⊎◌, a_case, a_deed, a_read, a_sync, a_type, a_write, Act, acted, activity, actor_in, all_phases, an_actor, an_element, ap, append-nil, append_assoc, arith}
use Rattle.unit_files.proofs.Common.{at_head, at_place, begins_reserved, behind, Bool, but_for, Bytes, case_declared, case_in, changing, closes_block, conditional, Contents, counted, Declaration, declaration_line, declared, declares, Deed}
use Rattle.unit_files.proofs.Common.{deed_of, deeds, deeds_in, delete, Draft, element, element_in, ended, eq-eqb, false, Fault, fault_of, first_long, first_phase, fitting, Follows, formed, Group, group_end, grouped, has_element, has_read}
use Rattle.unit_files.proofs.Common.{has_sync, has_write, if_known, if◌then◌else◌, inl, inr, insert, installing, is_listed, is_some, is_utf8, IsFileLimit, IsOfFile, le-ltb, leb-false, length, line_of, line_of_group, List, lt-leb, ltb-false}
use Rattle.unit_files.proofs.Common.{map, migrate_of, migrating, migrations_with, move, NamedGap, nat_le, nat_lt, new_draft, next_phase, node_in, None, not, numbered, one_install, op_in, open_lines, opens_and, opens_branch, opens_loop}
use Rattle.unit_files.proofs.Common.{opens_xor, operated, operation_line, OperationLine, Option, option_or, outside, over, parallel, phase_begun, phases_with, place_of, read, refl, refuse, renumbered, Rest, rest_of, role_numbers, SameNames}
use Rattle.unit_files.proofs.Common.{SamePlace, SameRefusal, SameState, SchemaModel, script_line, scripted, ScriptLine, Section, set_role, Some, State, Step, step_in, step_outside, subst, sym, sync, to_change, to_create, to_end, to_install}
use Rattle.unit_files.proofs.Common.{to_migrate, to_start, to_withdraw, TooLong, true, twice, type_end, type_line, typed, TypeLine, unless, unless_long, unless_not_text, unread, unsync, unwrite, whole, Why, why_long, with_actor, with_case}
use Rattle.unit_files.proofs.Common.{with_element, with_elements, with_group, with_line, with_names, with_node, with_op, with_place, with_roles, with_script_line, Within, write}
use Rattle.std.proofs.lemmas.List.{length-append}
use Rattle.wsm_lists.specs.declared.values.Value.{Value}
use Rattle.wsm_ops.specs.declared.operations.Op.{Op}
use Rattle.wsm_sound.specs.declared.versions.CaseId.{CaseId}
use Rattle.file_limits.specs.declared.TheConstants.{MAX_DEPTH, MAX_INSTALLS, MAX_LINES, MAX_OPS, MAX_PHASES, MAX_ROLES}
use Rattle.file_model.specs.{CaseCounts.cases_of_type, declared.files.Line.Line, declared.refusals.FileLimit.FileLimit}
use Rattle.file_model.specs.declared.files.Act.TheVariants as act
use Rattle.file_model.specs.declared.refusals.FileLimit.TheVariants as limit
use Rattle.file_model.specs.declared.refusals.Why.TheVariants as why
use Rattle.file_model.specs.declared.states.Section.TheVariants as section
use Rattle.file_model.specs.declared.states.Target.TheVariants as target
use Rattle.unit_files.specs.Same.{opens}

-- ---- tests that speak against a line
abbrev Tests : (file held : Option Why) → Type 0
Tests None None = Unit {0}
Tests None (Some w) = ⊥
Tests (Some v) None = IsOfFile v
Tests (Some v) (Some w) = IsOfFile v ⊎ (w ≡ v)

same-test : (o : Option Why) → Tests o o
same-test None = tt
same-test (Some w) = inr refl

over-test : (l : FileLimit) → IsFileLimit l → (x y : Bool) → (x ≡ false → y ≡ false) → Tests (over x l) (over y l)
over-test l is true true h = inl is
over-test l is true false h = is
over-test l is false true h = absurd (cc (h refl))
over-test l is false false h = tt

either-test : (a b c d : Option Why) → Tests a b → Tests c d → Tests (option_or a c) (option_or b d)
either-test None None c d t u = u
either-test None (Some w) c d t u = absurd t
either-test (Some v) None c None t u = t
either-test (Some v) None c (Some w) t u = inl t
either-test (Some v) (Some w) c d t u = t

-- what a lower limit lets pass a higher one does
le-test : (a b n : ℕ) → a ≤ b → nat_le a n ≡ false → nat_le b n ≡ false
le-test a b n less pass = lt-leb b n (omega (arith, less, leb-false a n pass))

count-test : (a n m : ℕ) → m ≤ n → nat_le a n ≡ false → nat_le a m ≡ false
count-test a n m less pass = lt-leb a m (omega (arith, less, leb-false a n pass))

sum-test : (a b n m : ℕ) → a ≤ b → m ≤ n → nat_lt a n ≡ false → nat_lt b m ≡ false
sum-test a b n m less few pass = le-ltb b m (omega (arith, less, few, ltb-false a n pass))

module _ (before : List (ℕ × Act)) where
  -- ---- a state behind tests
  unless-follows : (o p : Option Why) (c d : Contents) (s t : State) → Tests o p → SameNames c d → SameState before s t → Follows before (unless o c s) (unless p d t)
  unless-follows None None c d s t test names same = same
  unless-follows None (Some w) c d s t test names same = absurd test
  unless-follows (Some v) None c d s t test names same = test
  unless-follows (Some v) (Some w) c d s t test names same = refused test
    where
      refused : IsOfFile v ⊎ (w ≡ v) → IsOfFile v ⊎ SameRefusal (v, c) (w, d)
      refused (inl of) = inl of
      refused (inr is) = inr (is, names)

  refused-follows : (w : Why) (c d : Contents) → SameNames c d → Follows before (refuse c w) (refuse d w)
  refused-follows w c d names = inr (refl, names)

  known-follows : {A : Type 0} (o : Option A) (go to : A → Step) (c d : Contents) → SameNames c d → ((x : A) → Follows before (go x) (to x)) → Follows before (if_known o go c) (if_known o to d)
  known-follows None go to c d names h = refused-follows why.Unknown c d names
  known-follows (Some x) go to c d names h = h x

  -- ---- lines of phases
  map-push : (lines : List Line) (l : Line) → map deed_of (lines ++ l ∷ []) ≡ map deed_of lines ++ deed_of l ∷ []
  map-push [] l = refl
  map-push (k ∷ lines) l = ap (λ r. deed_of k ∷ r) (map-push lines l)

  deeds-push : (phases : List (List Line)) (lines : List Line) → deeds_in (phases ++ lines ∷ []) ≡ deeds_in phases ++ map deed_of lines
  deeds-push [] lines = append-nil (map deed_of lines)
  deeds-push (p ∷ phases) lines = ap (λ r. map deed_of p ++ r) (deeds-push phases lines) ∙ sym (append_assoc (map deed_of p) (deeds_in phases) (map deed_of lines))

  -- one more line in the open phase
  deeds-line : (o : Option (List Line)) (phases : List (List Line)) (l : Line) → deeds_in (phases_with (Some (open_lines o ++ l ∷ [])) phases) ≡ deeds_in (phases_with o phases) ++ deed_of l ∷ []
  deeds-line None phases l = deeds-push phases (l ∷ [])
  deeds-line (Some lines) phases l =
      deeds-push phases (lines ++ l ∷ []) ∙ ap (λ r. deeds_in phases ++ r) (map-push lines l) ∙ sym (append_assoc (deeds_in phases) (map deed_of lines) (deed_of l ∷ []))
      ∙ ap (λ r. r ++ deed_of l ∷ []) (sym (deeds-push phases lines))

  -- one more phase
  deeds-phase : (phases : List (List Line)) → deeds_in (phases ++ [] ∷ []) ≡ deeds_in phases
  deeds-phase phases = deeds-push phases [] ∙ append-nil (deeds_in phases)

  -- a line more in both
  line-within : (c : Contents) (r : Rest) (k l : Line) → deed_of l ≡ deed_of k → Within before (rest_of c) r → Within before (rest_of (with_script_line k c)) (rest_of (with_script_line l (but_for r c)))
  line-within c r k l same h = record {
    types = h.types;
    actors = h.actors;
    cases = h.cases;
    migrations = h.migrations;
    lines = h.lines;
    installs = h.installs;
    migrated = h.migrated;
    phases = h.phases;
    opened = omega arith;
    deeds =
        deeds-line c.current c.phases k ∙ ap (λ ds. ds ++ deed_of k ∷ []) h.deeds ∙ append_assoc before (deeds r) (deed_of k ∷ [])
        ∙ ap (λ x. before ++ (deeds r ++ x ∷ [])) (sym same) ∙ ap (λ ds. before ++ ds) (sym (deeds-line r.current r.phases l));
  }

  -- the line is counted in both
  counted-within : (c : Contents) (r : Rest) → Within before (rest_of c) r → Within before (rest_of (counted c)) (rest_of (counted (but_for r c)))
  counted-within c r h = record {
    types = h.types;
    actors = h.actors;
    cases = h.cases;
    migrations = h.migrations;
    lines = omega (arith, h.lines);
    installs = h.installs;
    migrated = h.migrated;
    phases = h.phases;
    opened = h.opened;
    deeds = h.deeds;
  }

  -- ---- declarations
  case-follows : (n : Bytes) (t : Option ℕ) (c : Contents) (r : Rest) → Within before (rest_of c) r → Follows before (case_declared n t c) (case_declared n t (but_for r c))
  case-follows n None c r h = refused-follows why.Unknown c (but_for r c) (refl, refl)
  case-follows n (Some t) c r h =
      let few = length c.cases.items in
      unless-follows _ _ c (but_for r c) (outside (with_case n t c)) (outside (with_case n t (but_for r c)))
      (either-test (twice (is_listed n c.cases.names)) (twice (is_listed n c.cases.names)) (over (nat_le c.limits.cases few) limit.Cases) (over (nat_le r.limits.cases few) limit.Cases)
      (same-test (twice (is_listed n c.cases.names))) (over-test limit.Cases tt (nat_le c.limits.cases few) (nat_le r.limits.cases few) (le-test c.limits.cases r.limits.cases few h.cases)))
      (refl, refl) (tt, refl, h)

  phases-count : (o : Option (List Line)) (phases : List (List Line)) → length (phases_with o phases) ≡ length phases + opens o
  phases-count None phases = omega arith
  phases-count (Some lines) phases = omega (arith, length-append phases (lines ∷ []))

  begun-within : (c : Contents) (r : Rest) → Within before (rest_of c) r →
      Within before (rest_of (record c { phases = all_phases c; current = Some [] })) (record r { phases = phases_with r.current r.phases; current = Some [] })
  begun-within c r h = record {
    types = h.types;
    actors = h.actors;
    cases = h.cases;
    migrations = h.migrations;
    lines = h.lines;
    installs = h.installs;
    migrated = h.migrated;
    phases = omega (arith, h.phases, h.opened, phases-count c.current c.phases, phases-count r.current r.phases);
    opened = omega arith;
    deeds = deeds-phase (phases_with c.current c.phases) ∙ h.deeds ∙ ap (λ ds. before ++ ds) (sym (deeds-phase (phases_with r.current r.phases)));
  }

  begun-follows : (c : Contents) (r : Rest) → Within before (rest_of c) r → Follows before (phase_begun c) (phase_begun (but_for r c))
  begun-follows c r h =
      let n = length (all_phases c) in
      let m = length (phases_with r.current r.phases) in
      let few : m ≤ n = omega (arith, h.phases, h.opened, phases-count c.current c.phases, phases-count r.current r.phases) in
      unless-follows _ _ c (but_for r c) (outside (record c { phases = all_phases c; current = Some [] })) (outside (record (but_for r c) { phases = phases_with r.current r.phases; current = Some [] }))
      (over-test limit.Phases tt (nat_le MAX_PHASES n) (nat_le MAX_PHASES m) (count-test MAX_PHASES n m few)) (refl, refl) (tt, refl, begun-within c r h)

  declared-follows : (d : Declaration) (c : Contents) (r : Rest) → Within before (rest_of c) r → Follows before (declared d c) (declared d (but_for r c))
  declared-follows (a_type n) c r h =
      let few = length c.types.items in
      unless-follows _ _ c (but_for r c) (at_place (section.InType (new_draft n)) c) (at_place (section.InType (new_draft n)) (but_for r c))
      (either-test (twice (is_listed n c.types.names)) (twice (is_listed n c.types.names)) (over (nat_le c.limits.types few) limit.Types) (over (nat_le r.limits.types few) limit.Types)
      (same-test (twice (is_listed n c.types.names))) (over-test limit.Types tt (nat_le c.limits.types few) (nat_le r.limits.types few) (le-test c.limits.types r.limits.types few h.types)))
      (refl, refl) (refl, refl, h)
  declared-follows (an_actor n roles) c r h =
      let few = length c.actors.items in
      let many = over (nat_lt MAX_ROLES (length roles)) limit.Roles in
      let numbers = role_numbers c.roles roles in
      unless-follows _ _ c (but_for r c) (outside (with_actor n numbers (with_roles roles c))) (outside (with_actor n numbers (with_roles roles (but_for r c))))
      (either-test (twice (is_listed n c.actors.names)) (twice (is_listed n c.actors.names)) (option_or (over (nat_le c.limits.actors few) limit.Actors) many)
      (option_or (over (nat_le r.limits.actors few) limit.Actors) many) (same-test (twice (is_listed n c.actors.names)))
      (either-test (over (nat_le c.limits.actors few) limit.Actors) (over (nat_le r.limits.actors few) limit.Actors) many many
      (over-test limit.Actors tt (nat_le c.limits.actors few) (nat_le r.limits.actors few) (le-test c.limits.actors r.limits.actors few h.actors)) (same-test many)))
      (refl, refl) (tt, refl, h)
  declared-follows (a_case n kind) c r h = case-follows n (place_of c.types.names kind) c r h
  declared-follows first_phase c r h = begun-follows c r h

  -- ---- lines of a type
  same-follows : (o : Option Why) (c d : Contents) (s t : State) → SameNames c d → SameState before s t → Follows before (unless o c s) (unless o d t)
  same-follows o c d s t names same = unless-follows o o c d s t (same-test o) names same

  ended-follows : (n : Bytes) (s : SchemaModel) (f : Option Fault) (c : Contents) (r : Rest) → Within before (rest_of c) r → Follows before (ended n s f c) (ended n s f (but_for r c))
  ended-follows n s None c r h = (tt, refl, h)
  ended-follows n s (Some f) c r h = refused-follows (why.Unsound f) c (but_for r c) (refl, refl)

  typed-follows : (l : TypeLine) (d : Draft) (c : Contents) (r : Rest) → Within before (rest_of c) r → Follows before (typed l d c) (typed l d (but_for r c))
  typed-follows (activity n role) d c r h = (refl, refl, h)
  typed-follows (opens_and a b) d c r h = same-follows (over (nat_le MAX_DEPTH (length d.frames)) limit.Depth) c (but_for r c) _ _ (refl, refl) (refl, refl, h)
  typed-follows (opens_xor a b role) d c r h = same-follows (over (nat_le MAX_DEPTH (length d.frames)) limit.Depth) c (but_for r c) _ _ (refl, refl) (refl, refl, h)
  typed-follows (opens_branch code) d c r h = (refl, refl, h)
  typed-follows (opens_loop a b role) d c r h = same-follows (over (nat_le MAX_DEPTH (length d.frames)) limit.Depth) c (but_for r c) _ _ (refl, refl) (refl, refl, h)
  typed-follows closes_block d c r h = (refl, refl, h)
  typed-follows (a_sync a b) d c r h =
      same-follows (twice (has_sync a b d c)) (with_node b (with_node a c)) (with_node b (with_node a (but_for r c))) _ _ (refl, refl) (refl, refl, h)
  typed-follows (an_element e k) d c r h = same-follows (twice (has_element e d c)) (with_element e c) (with_element e (but_for r c)) _ _ (refl, refl) (refl, refl, h)
  typed-follows (a_read n e mandatory) d c r h =
      same-follows (twice (has_read n e d c)) (with_element e (with_node n c)) (with_element e (with_node n (but_for r c))) _ _ (refl, refl) (refl, refl, h)
  typed-follows (a_write n e) d c r h =
      same-follows (twice (has_write n e d c)) (with_element e (with_node n c)) (with_element e (with_node n (but_for r c))) _ _ (refl, refl) (refl, refl, h)
  typed-follows type_end d c r h = ended-follows d.name (whole d) (fault_of (whole d)) c r h

  -- ---- lines of a phase
  lines-test : (c : Contents) (r : Rest) → Within before (rest_of c) r → Tests (over (nat_le MAX_LINES c.counts.lines) limit.Lines) (over (nat_le MAX_LINES r.counts.lines) limit.Lines)
  lines-test c r h =
      over-test limit.Lines tt (nat_le MAX_LINES c.counts.lines) (nat_le MAX_LINES r.counts.lines) (count-test MAX_LINES c.counts.lines r.counts.lines h.lines)

  line-follows : (at to actor : ℕ) (a : Act) (c : Contents) (r : Rest) → Within before (rest_of c) r → Follows before (with_line at actor a c) (with_line to actor a (but_for r c))
  line-follows at to actor a c r h =
      let k = line_of at actor a c in
      let l = line_of to actor a (but_for r c) in
      let both = counted-within c r h in
      unless-follows _ _ c (but_for r c) (outside (with_script_line k (counted c))) (outside (with_script_line l (counted (but_for r c))))
      (lines-test c r h) (refl, refl) (tt, refl, line-within (counted c) (rest_of (counted (but_for r c))) k l refl both)

  elements-same : (ws : List (Bytes × Value)) (c : Contents) (r : Rest) → with_elements ws (but_for r c) ≡ but_for r (with_elements ws c)
  elements-same [] c r = refl
  elements-same (w ∷ ws) c r = elements-same ws (with_element w.0 c) r

  numbered-same : (ws : List (Bytes × Value)) (c : Contents) (r : Rest) → numbered ws (but_for r c) ≡ numbered ws c
  numbered-same [] c r = refl
  numbered-same (w ∷ ws) c r = ap (λ (l : List (ℕ × Value)). (element_in w.0 c, w.1) ∷ l) (numbered-same ws (with_element w.0 c) r)

  elements-rest : (ws : List (Bytes × Value)) (c : Contents) → rest_of (with_elements ws c) ≡ rest_of c
  elements-rest [] c = refl
  elements-rest (w ∷ ws) c = elements-rest ws (with_element w.0 c)

  end-follows : (at to actor n : ℕ) (choice : Option ℕ) (id : CaseId) (ws : List (Bytes × Value)) (c : Contents) (r : Rest) → Within before (rest_of c) r
      → Follows before (with_line at actor (act.End id n choice (numbered ws c)) (with_elements ws c)) (with_line to actor (act.End id n choice (numbered ws (but_for r c))) (with_elements ws (but_for r c)))
  end-follows at to actor n choice id ws c r h =
      let within : Within before (rest_of (with_elements ws c)) r = subst (λ (x : Rest). Within before x r) (sym (elements-rest ws c)) h in
      let one = line-follows at to actor (act.End id n choice (numbered ws c)) (with_elements ws c) r within in
      let same = λ (ns : List (ℕ × Value)) (d : Contents). Follows before (with_line at actor (act.End id n choice (numbered ws c)) (with_elements ws c)) (with_line to actor (act.End id n choice ns) d) in
      subst (λ (d : Contents). same (numbered ws (but_for r c)) d) (sym (elements-same ws c r))
      (subst (λ (ns : List (ℕ × Value)). same ns (but_for r (with_elements ws c))) (sym (numbered-same ws c r)) one)

  changing-follows : (at to actor : ℕ) (id : CaseId) (c : Contents) (r : Rest) → Within before (rest_of c) r → Follows before (changing at actor id c) (changing to actor id (but_for r c))
  changing-follows at to actor id c r h =
      unless-follows _ _ c (but_for r c) (with_group at actor (target.Case id) c) (with_group to actor (target.Case id) (but_for r c))
      (lines-test c r h) (refl, refl) (refl, refl, counted-within c r h)

  install-within : (c : Contents) (r : Rest) → Within before (rest_of c) r → Within before (rest_of (counted (one_install c))) (rest_of (counted (one_install (but_for r c))))
  install-within c r h = record {
    types = h.types;
    actors = h.actors;
    cases = h.cases;
    migrations = h.migrations;
    lines = omega (arith, h.lines);
    installs = omega (arith, h.installs);
    migrated = h.migrated;
    phases = h.phases;
    opened = h.opened;
    deeds = h.deeds;
  }

  installing-follows : (at to actor t : ℕ) (c : Contents) (r : Rest) → Within before (rest_of c) r → Follows before (installing at actor t c) (installing to actor t (but_for r c))
  installing-follows at to actor t c r h =
      unless-follows _ _ c (but_for r c) (with_group at actor (target.«Type» t) (one_install c)) (with_group to actor (target.«Type» t) (one_install (but_for r c)))
      (either-test (over (nat_le MAX_LINES c.counts.lines) limit.Lines) (over (nat_le MAX_LINES r.counts.lines) limit.Lines) (over (nat_le MAX_INSTALLS c.counts.installs) limit.Installs)
      (over (nat_le MAX_INSTALLS r.counts.installs) limit.Installs) (lines-test c r h)
      (over-test limit.Installs tt (nat_le MAX_INSTALLS c.counts.installs) (nat_le MAX_INSTALLS r.counts.installs) (count-test MAX_INSTALLS c.counts.installs r.counts.installs h.installs)))
      (refl, refl) (refl, refl, install-within c r h)

  abbrev migrated_with : ℕ → Contents → Contents
  migrated_with t c = record c { counts = record c.counts { migrations = migrations_with t c } }

  migrate-within : (t : ℕ) (c : Contents) (r : Rest) → Within before (rest_of c) r → Within before (rest_of (counted (migrated_with t c))) (rest_of (counted (migrated_with t (but_for r c))))
  migrate-within t c r h = record {
    types = h.types;
    actors = h.actors;
    cases = h.cases;
    migrations = h.migrations;
    lines = omega (arith, h.lines);
    installs = h.installs;
    migrated = omega (arith, h.migrated);
    phases = h.phases;
    opened = h.opened;
    deeds = h.deeds;
  }

  migrating-follows : (at to actor t : ℕ) (c : Contents) (r : Rest) → Within before (rest_of c) r → Follows before (migrating at actor t c) (migrating to actor t (but_for r c))
  migrating-follows at to actor t c r h =
      let a = migrate_of t c in
      let k = line_of at actor a c in
      let l = line_of to actor a (but_for r c) in
      let n = c.counts.migrations + cases_of_type t c.cases.items in
      let m = r.counts.migrations + cases_of_type t c.cases.items in
      let few : m ≤ n = omega (arith, h.migrated) in
      unless-follows _ _ c (but_for r c) (outside (with_script_line k (counted (migrated_with t c)))) (outside (with_script_line l (counted (migrated_with t (but_for r c)))))
      (either-test (over (nat_le MAX_LINES c.counts.lines) limit.Lines) (over (nat_le MAX_LINES r.counts.lines) limit.Lines) (over (nat_lt c.limits.migrations n) limit.Migrations)
      (over (nat_lt r.limits.migrations m) limit.Migrations) (lines-test c r h)
      (over-test limit.Migrations tt (nat_lt c.limits.migrations n) (nat_lt r.limits.migrations m) (sum-test c.limits.migrations r.limits.migrations n m h.migrations few)))
      (refl, refl) (tt, refl, line-within (counted (migrated_with t c)) (rest_of (counted (migrated_with t (but_for r c)))) k l refl (migrate-within t c r h))

  acted-follows : (d : Deed) (actor at to : ℕ) (c : Contents) (r : Rest) → Within before (rest_of c) r → Follows before (acted d actor at c) (acted d actor to (but_for r c))
  acted-follows (to_create n) actor at to c r h = known-follows (case_in n c) _ _ c (but_for r c) (refl, refl) (λ id. line-follows at to actor (act.Create id) c r h)
  acted-follows (to_start n node) actor at to c r h =
      known-follows (case_in n c) _ _ c (but_for r c) (refl, refl) (λ id. line-follows at to actor (act.Start id (node_in node c)) (with_node node c) r h)
  acted-follows (to_withdraw n node) actor at to c r h =
      known-follows (case_in n c) _ _ c (but_for r c) (refl, refl) (λ id. line-follows at to actor (act.Withdraw id (node_in node c)) (with_node node c) r h)
  acted-follows (to_end n node choice writes) actor at to c r h =
      known-follows (case_in n c) _ _ c (but_for r c) (refl, refl) (λ id. end-follows at to actor (node_in node c) choice id writes (with_node node c) r h)
  acted-follows (to_change n) actor at to c r h = known-follows (case_in n c) _ _ c (but_for r c) (refl, refl) (λ id. changing-follows at to actor id c r h)
  acted-follows (to_install n) actor at to c r h = known-follows (place_of c.types.names n) _ _ c (but_for r c) (refl, refl) (λ t. installing-follows at to actor t c r h)
  acted-follows (to_migrate n) actor at to c r h = known-follows (place_of c.types.names n) _ _ c (but_for r c) (refl, refl) (λ t. migrating-follows at to actor t c r h)

  scripted-follows : (l : ScriptLine) (at to : ℕ) (c : Contents) (r : Rest) → Within before (rest_of c) r → Follows before (scripted l at c) (scripted l to (but_for r c))
  scripted-follows next_phase at to c r h = begun-follows c r h
  scripted-follows (a_deed a d) at to c r h = known-follows (actor_in a c) _ _ c (but_for r c) (refl, refl) (λ actor. acted-follows d actor at to c r h)

  -- ---- lines of a group
  place-same : (p : NamedGap) (c : Contents) (r : Rest) → with_place p (but_for r c) ≡ but_for r (with_place p c)
  place-same (behind n) c r = refl
  place-same (at_head n code) c r = refl

  names-same : (l : OperationLine) (c : Contents) (r : Rest) → with_names l (but_for r c) ≡ but_for r (with_names l c)
  names-same (insert n role (behind m)) c r = refl
  names-same (insert n role (at_head m code)) c r = refl
  names-same (parallel n role s j a b) c r = refl
  names-same (conditional n role s j (behind m)) c r = refl
  names-same (conditional n role s j (at_head m code)) c r = refl
  names-same (delete n) c r = refl
  names-same (move n (behind m)) c r = refl
  names-same (move n (at_head m code)) c r = refl
  names-same (sync a b) c r = refl
  names-same (unsync a b) c r = refl
  names-same (element e k) c r = refl
  names-same (read n e m) c r = refl
  names-same (unread n e) c r = refl
  names-same (write n e) c r = refl
  names-same (unwrite n e) c r = refl
  names-same (set_role n role) c r = refl
  names-same group_end c r = refl

  names-rest : (l : OperationLine) (c : Contents) → rest_of (with_names l c) ≡ rest_of c
  names-rest (insert n role (behind m)) c = refl
  names-rest (insert n role (at_head m code)) c = refl
  names-rest (parallel n role s j a b) c = refl
  names-rest (conditional n role s j (behind m)) c = refl
  names-rest (conditional n role s j (at_head m code)) c = refl
  names-rest (delete n) c = refl
  names-rest (move n (behind m)) c = refl
  names-rest (move n (at_head m code)) c = refl
  names-rest (sync a b) c = refl
  names-rest (unsync a b) c = refl
  names-rest (element e k) c = refl
  names-rest (read n e m) c = refl
  names-rest (unread n e) c = refl
  names-rest (write n e) c = refl
  names-rest (unwrite n e) c = refl
  names-rest (set_role n role) c = refl
  names-rest group_end c = refl

  op-same : (l : OperationLine) (c : Contents) (r : Rest) → op_in l (but_for r c) ≡ op_in l c
  op-same (insert n role (behind m)) c r = refl
  op-same (insert n role (at_head m code)) c r = refl
  op-same (parallel n role s j a b) c r = refl
  op-same (conditional n role s j (behind m)) c r = refl
  op-same (conditional n role s j (at_head m code)) c r = refl
  op-same (delete n) c r = refl
  op-same (move n (behind m)) c r = refl
  op-same (move n (at_head m code)) c r = refl
  op-same (sync a b) c r = refl
  op-same (unsync a b) c r = refl
  op-same (element e k) c r = refl
  op-same (read n e m) c r = refl
  op-same (unread n e) c r = refl
  op-same (write n e) c r = refl
  op-same (unwrite n e) c r = refl
  op-same (set_role n role) c r = refl
  op-same group_end c r = refl

  grouped-follows : (o : Option Op) (g : Group) (at order : ℕ) (c : Contents) (r : Rest) → Within before (rest_of c) r → Follows before (grouped o g c) (grouped o (renumbered at order g) (but_for r c))
  grouped-follows None g at order c r h = (tt, refl, line-within c r (line_of_group g) (line_of_group (renumbered at order g)) refl h)
  grouped-follows (Some o) g at order c r h =
      same-follows (over (nat_le MAX_OPS (length g.ops)) limit.Ops) c (but_for r c) (at_place (section.InGroup (with_op o g)) c) (at_place (section.InGroup (with_op o (renumbered at order g))) (but_for r c))
      (refl, refl) (refl, refl, h)

  operated-follows : (l : OperationLine) (g : Group) (at order : ℕ) (c : Contents) (r : Rest) → Within before (rest_of c) r → Follows before (operated l g c) (operated l (renumbered at order g) (but_for r c))
  operated-follows l g at order c r h =
      let within : Within before (rest_of (with_names l c)) r = subst (λ (x : Rest). Within before x r) (sym (names-rest l c)) h in
      let one = grouped-follows (op_in l c) g at order (with_names l c) r within in
      let same = λ (o : Option Op) (d : Contents). Follows before (operated l g c) (grouped o (renumbered at order g) d) in
      subst (λ (d : Contents). same (op_in l (but_for r c)) d) (sym (names-same l c r))
      (subst (λ (o : Option Op). same o (but_for r (with_names l c))) (sym (op-same l c r)) one)

  -- ---- a line
  long-follows : (l : Option TooLong) (c d : Contents) (s t : Step) → SameNames c d → Follows before s t → Follows before (unless_long l c s) (unless_long l d t)
  long-follows None c d s t names h = h
  long-follows (Some l) c d s t names h = refused-follows (why_long l) c d names

  formed-follows : {F : Type 0} (o : Option F) (ws : List Bytes) (go to : F → Step) (c d : Contents) → SameNames c d → ((f : F) → Follows before (go f) (to f)) → Follows before (formed o ws go c) (formed o ws to d)
  formed-follows None ws go to c d names h = refused-follows why.Form c d names
  formed-follows (Some f) ws go to c d names h = long-follows (first_long ws) c d (go f) (to f) names (h f)

  text-follows : (test : Bool) (c d : Contents) (s t : Step) → SameNames c d → Follows before s t → Follows before (unless_not_text test c s) (unless_not_text test d t)
  text-follows true c d s t names h = h
  text-follows false c d s t names h = refused-follows why.NotText c d names

  if-follows : (test other : Bool) (s o t p : Step) → other ≡ test → Follows before s t → Follows before o p → Follows before (if test then s else o) (if other then t else p)
  if-follows true true s o t p is h k = h
  if-follows true false s o t p is h k = absurd (cc (is))
  if-follows false true s o t p is h k = absurd (cc (is))
  if-follows false false s o t p is h k = k

  declares-same : (ws : List Bytes) (c : Contents) (r : Rest) → c.format ≡ 3 → declares ws (but_for r c) ≡ declares ws c
  declares-same ws c r is = by (c.format == 3) (eq-eqb c.format 3 is)
    where
      by : (test : Bool) → test ≡ true → (if test then begins_reserved ws else not (is_some r.current)) ≡ (if test then begins_reserved ws else not (is_some c.current))
      by true e = refl
      by false e = absurd (cc (e))

  outside-follows : (at to : ℕ) (ws : List Bytes) (c : Contents) (r : Rest) → c.format ≡ 3 → Within before (rest_of c) r → Follows before (step_outside at ws c) (step_outside to ws (but_for r c))
  outside-follows at to ws c r is h =
      if-follows (declares ws c) (declares ws (but_for r c)) _ _ _ _ (declares-same ws c r is)
      (formed-follows (declaration_line c.format ws) ws (λ d. declared d c) (λ d. declared d (but_for r c)) c (but_for r c) (refl, refl) (λ d. declared-follows d c r h))
      (formed-follows (script_line c.format ws) ws (λ l. scripted l at c) (λ l. scripted l to (but_for r c)) c (but_for r c) (refl, refl) (λ l. scripted-follows l at to c r h))

  type-follows : (d e : Draft) (at to : ℕ) (line : Bytes) (ws : List Bytes) (c : Contents) (r : Rest) → e ≡ d → Within before (rest_of c) r
      → Follows before (step_in (section.InType d) at line ws c) (step_in (section.InType e) to line ws (but_for r c))
  type-follows d e at to line ws c r same h =
      subst (λ (f : Draft). Follows before (step_in (section.InType d) at line ws c) (step_in (section.InType f) to line ws (but_for r c))) (sym same)
      (text-follows (is_utf8 line) c (but_for r c) _ _ (refl, refl)
      (formed-follows (fitting d (type_line c.format ws)) ws (λ l. typed l d c) (λ l. typed l d (but_for r c)) c (but_for r c) (refl, refl) (λ l. typed-follows l d c r h)))

  group-follows : (g k : Group) (at to : ℕ) (line : Bytes) (ws : List Bytes) (c : Contents) (r : Rest) → k ≡ renumbered k.at k.order g → Within before (rest_of c) r
      → Follows before (step_in (section.InGroup g) at line ws c) (step_in (section.InGroup k) to line ws (but_for r c))
  group-follows g k at to line ws c r same h =
      subst (λ (j : Group). Follows before (step_in (section.InGroup g) at line ws c) (step_in (section.InGroup j) to line ws (but_for r c))) (sym same)
      (text-follows (is_utf8 line) c (but_for r c) _ _ (refl, refl)
      (formed-follows (operation_line c.format ws) ws (λ l. operated l g c) (λ l. operated l (renumbered k.at k.order g) (but_for r c)) c (but_for r c) (refl, refl)
      (λ l. operated-follows l g k.at k.order c r h)))

  -- a line of a unit, which is read in a file and behind what is held
  pub step_in-follows : (p q : Section) (at to : ℕ) (line : Bytes) (ws : List Bytes) (c : Contents) (r : Rest) → SamePlace p q → c.format ≡ 3 → Within before (rest_of c) r
      → Follows before (step_in p at line ws c) (step_in q to line ws (but_for r c))
  step_in-follows section.Outside section.Outside at to line ws c r same is h =
      text-follows (is_utf8 line) c (but_for r c) _ _ (refl, refl) (outside-follows at to ws c r is h)
  step_in-follows (section.InType d) (section.InType e) at to line ws c r same is h = type-follows d e at to line ws c r same h
  step_in-follows (section.InGroup g) (section.InGroup k) at to line ws c r same is h = group-follows g k at to line ws c r same h
  step_in-follows (section.Head n) q at to line ws c r same is h = absurd same
  step_in-follows section.Outside (section.Head n) at to line ws c r same is h = absurd same
  step_in-follows section.Outside (section.InType e) at to line ws c r same is h = absurd same
  step_in-follows section.Outside (section.InGroup k) at to line ws c r same is h = absurd same
  step_in-follows (section.InType d) (section.Head n) at to line ws c r same is h = absurd same
  step_in-follows (section.InType d) section.Outside at to line ws c r same is h = absurd same
  step_in-follows (section.InType d) (section.InGroup k) at to line ws c r same is h = absurd same
  step_in-follows (section.InGroup g) (section.Head n) at to line ws c r same is h = absurd same
  step_in-follows (section.InGroup g) section.Outside at to line ws c r same is h = absurd same
  step_in-follows (section.InGroup g) (section.InType e) at to line ws c r same is h = absurd same

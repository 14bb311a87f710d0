-- What holds behind declarations and lines of a type.
use Rattle.file_facts.proofs.Common.{[], ℕ, ◌++◌, ◌<◌, ◌==◌, ◌∷◌, ◌≡◌, ◌≤◌, a_case, a_read, a_sync, a_type, a_write, Act, activity, ActorDecl, all-rows-map, AllRows, an_actor, an_element, ArePlaced, arith, at_place, Bytes, case_declared}
use Rattle.file_facts.proofs.Common.{CaseDecl, CaseId, cases_of_type, closes_block, cond, Contents, Declaration, declared, DeclaredList, Draft, ended, Fault, fault_of, first_phase, has_id, HasType, inl, inr, IsDeclared, IsKnown, IsKnownAct}
use Rattle.file_facts.proofs.Common.{IsSound, leb-false, length, length_push, Limits, Line, List, new_draft, None, open_lines, opens_and, opens_branch, opens_loop, opens_xor, Option, outside, phase_begun, phases_with, place_of, refl}
use Rattle.file_facts.proofs.Common.{role_numbers, rows-append, SchemaModel, slice_get_within, Some, sum_by_push, take, take-append-le, type_end, typed, TypeDecl, TypeLine, whole, with_actor, with_case, with_element, with_node, with_roles}
use Rattle.file_facts.proofs.{Common.with_type, Held.{AreDeclared, IsScript, Typing, Script, HasDeclared, HeldStep, unless-held, same-held, not_over, neither}, Lists.{any-more, at-push, length-noted, place_within}}
use Rattle.std.proofs.Math.Seq.{take-append_seam}
use Rattle.file_model.specs.declared.files.Act.TheVariants as act
use Rattle.file_model.specs.declared.refusals.FileLimit.TheVariants as limit
use Rattle.file_model.specs.declared.states.Section.TheVariants as section

-- ---- one more declaration
more_types : (n m : ℕ) → n ≤ m → (cases : List CaseDecl) → AllRows (HasType n) cases → AllRows (HasType m) cases
more_types n m le cases h = all-rows-map (HasType n) (HasType m) (λ d below. omega (arith, below, le)) cases h

type-declared : (n : Bytes) (s : SchemaModel) (c : Contents) → fault_of s ≡ None → length c.types.items < c.limits.types → HasDeclared c → HasDeclared (with_type n s c)
type-declared n s c sound room h =
    let t : TypeDecl = record { name = n; schema = s } in
    let longer = length_push c.types.items t in
    record {
      type_names = omega (arith, h.type_names, longer, length-noted c.types.names n);
      actor_names = h.actor_names;
      few_types = omega (arith, room, longer);
      few_actors = h.few_actors;
      few_cases = h.few_cases;
      sound = rows-append IsSound c.types.items (t ∷ []) h.sound (sound, tt);
      typed = more_types (length c.types.items) (length (c.types.items ++ t ∷ [])) (omega (arith, longer)) c.cases.items h.typed;
      placed = h.placed;
    }

actor-declared : (n : Bytes) (roles : List ℕ) (c : Contents) → length c.actors.items < c.limits.actors → HasDeclared c → HasDeclared (with_actor n roles c)
actor-declared n roles c room h =
    let longer = length_push c.actors.items (record { name = n; roles = roles }) in
    record {
      type_names = h.type_names;
      actor_names = omega (arith, h.actor_names, longer, length-noted c.actors.names n);
      few_types = h.few_types;
      few_actors = omega (arith, room, longer);
      few_cases = h.few_cases;
      sound = h.sound;
      typed = h.typed;
      placed = h.placed;
    }

-- the place of one more case counts those that are there
placed-push : (cases : List CaseDecl) (d : CaseDecl) → d.id.place ≡ cases_of_type d.id.type_no cases → ArePlaced cases → ArePlaced (cases ++ d ∷ [])
placed-push cases d own h k e at =
    elim (at-push cases d k e at) [
      | inl old ↦
          let same : take k (cases ++ d ∷ []) ≡ take k cases = take-append-le k cases (d ∷ []) (omega (arith, slice_get_within cases k e old)) in
          rw same (h k e old)
      | inr new ↦ rw (← new.1, new.0, take-append_seam) own
    ]

case-declared : (n : Bytes) (t : ℕ) (c : Contents) → t < length c.types.items → length c.cases.items < c.limits.cases → HasDeclared c → HasDeclared (with_case n t c)
case-declared n t c there room h =
    let d : CaseDecl = record { name = n; id = record { type_no = t; place = cases_of_type t c.cases.items } } in
    let longer = length_push c.cases.items d in
    record {
      type_names = h.type_names;
      actor_names = h.actor_names;
      few_types = h.few_types;
      few_actors = h.few_actors;
      few_cases = omega (arith, room, longer);
      sound = h.sound;
      typed = rows-append (HasType (length c.types.items)) c.cases.items (d ∷ []) h.typed (there, tt);
      placed = placed-push c.cases.items d refl h.placed;
    }

-- ---- what was known stays known
pub record AreAmong (cases more : List CaseDecl) : Type 0 where
  pub declared : (c : CaseId) → IsDeclared c cases → IsDeclared c more
  pub counted : (t : ℕ) → cases_of_type t cases ≤ cases_of_type t more

same-cases : (cases : List CaseDecl) → AreAmong cases cases
same-cases cases = record { declared = λ c h. h; counted = λ t. omega arith }

one-case : (cases : List CaseDecl) (d : CaseDecl) → AreAmong cases (cases ++ d ∷ [])
one-case cases d = record {
  declared = λ c h. any-more (has_id c) cases d h;
  counted = λ t. omega (arith, sum_by_push (λ (e : CaseDecl). cond (e.id.type_no == t) 1 0) cases d);
}

known-act : (n m : ℕ) (cases more : List CaseDecl) → n ≤ m → AreAmong cases more → (x : Act) → IsKnownAct n cases x → IsKnownAct m more x
known-act n m cases more le among (act.Create c) h = among.declared c h
known-act n m cases more le among (act.Start c node) h = among.declared c h
known-act n m cases more le among (act.Withdraw c node) h = among.declared c h
known-act n m cases more le among (act.End c node choice writes) h = among.declared c h
known-act n m cases more le among (act.Change c ops) h = (among.declared c h.0, h.1)
known-act n m cases more le among (act.Install t ops) h = (omega (arith, le, h.0), h.1)
known-act n m cases more le among (act.Migrate t many) h = (omega (arith, le, h.0), omega (arith, among.counted t, h.1))

known-line : (n m a b : ℕ) (cases more : List CaseDecl) → n ≤ m → a ≤ b → AreAmong cases more → (l : Line) → IsKnown n a cases l → IsKnown m b more l
known-line n m a b cases more types actors among l h = record {
  from_1 = h.from_1;
  actor = omega (arith, actors, h.actor);
  act = known-act n m cases more types among l.act h.act;
}

known-lines : (n m a b : ℕ) (cases more : List CaseDecl) → n ≤ m → a ≤ b → AreAmong cases more → (lines : List Line) → AllRows (IsKnown n a cases) lines → AllRows (IsKnown m b more) lines
known-lines n m a b cases more types actors among lines h = all-rows-map (IsKnown n a cases) (IsKnown m b more) (known-line n m a b cases more types actors among) lines h

wider : (limits : Limits) (types more_types : DeclaredList TypeDecl) (actors more_actors : DeclaredList ActorDecl) (cases more_cases : DeclaredList CaseDecl) (phases : List (List Line)) (counted : ℕ) (lines : List Line) (begun : ℕ) →
    length types.items ≤ length more_types.items → length actors.items ≤ length more_actors.items → AreAmong cases.items more_cases.items → AreDeclared limits more_types more_actors more_cases →
    IsScript limits types actors cases phases counted lines begun → IsScript limits more_types more_actors more_cases phases counted lines begun
wider limits types more_types actors more_actors cases more_cases phases counted lines begun t a among declared h =
    let known = known-lines (length types.items) (length more_types.items) (length actors.items) (length more_actors.items) cases.items more_cases.items t a among in
    record {
      declared = declared;
      within = h.within;
      all_counted = h.all_counted;
      known_phases =
          all-rows-map (AllRows (IsKnown (length types.items) (length actors.items) cases.items))
          (AllRows (IsKnown (length more_types.items) (length more_actors.items) more_cases.items)) known phases h.known_phases;
      known_lines = known lines h.known_lines;
    }

-- ---- the open phase ends
pub phase-ended : (limits : Limits) (types : DeclaredList TypeDecl) (actors : DeclaredList ActorDecl) (cases : DeclaredList CaseDecl) (phases : List (List Line)) (counted : ℕ) (current : Option (List Line)) →
    IsScript limits types actors cases phases counted (open_lines current) 0 → IsScript limits types actors cases (phases_with current phases) counted [] 0
phase-ended limits types actors cases phases counted None h = h
phase-ended limits types actors cases phases counted (Some lines) h = record {
  declared = h.declared;
  within = h.within;
  all_counted = let before = h.all_counted in omega (arith, before, sum_by_push (λ (ls : List Line). length ls) phases lines);
  known_phases = rows-append _ phases (lines ∷ []) h.known_phases (h.known_lines, tt);
  known_lines = tt;
}

pub begun-held : (c : Contents) → Script c 0 → HeldStep (phase_begun c)
begun-held c h = same-held _ c _ (phase-ended c.limits c.types c.actors c.cases c.phases c.counts.lines c.current h)

-- ---- declarations
type-script : (n : Bytes) (s : SchemaModel) (c : Contents) → fault_of s ≡ None → length c.types.items < c.limits.types → Script c 0 → Script (with_type n s c) 0
type-script n s c sound room h =
    let after = with_type n s c in
    wider c.limits c.types after.types c.actors c.actors c.cases c.cases c.phases c.counts.lines (open_lines c.current) 0 (omega (arith, length_push c.types.items (record { name = n; schema = s }))) (omega arith)
    (same-cases c.cases.items) (type-declared n s c sound room h.declared) h

actor-script : (n : Bytes) (roles : List ℕ) (c : Contents) → length c.actors.items < c.limits.actors → Script c 0 → Script (with_actor n roles c) 0
actor-script n roles c room h =
    let after = with_actor n roles c in
    wider c.limits c.types c.types c.actors after.actors c.cases c.cases c.phases c.counts.lines (open_lines c.current) 0 (omega arith) (omega (arith, length_push c.actors.items (record { name = n; roles = roles })))
    (same-cases c.cases.items) (actor-declared n roles c room h.declared) h

case-script : (n : Bytes) (t : ℕ) (c : Contents) → t < length c.types.items → length c.cases.items < c.limits.cases → Script c 0 → Script (with_case n t c) 0
case-script n t c there room h =
    let after = with_case n t c in
    let d : CaseDecl = record { name = n; id = record { type_no = t; place = cases_of_type t c.cases.items } } in
    wider c.limits c.types c.types c.actors c.actors c.cases after.cases c.phases c.counts.lines (open_lines c.current) 0 (omega arith) (omega arith)
    (one-case c.cases.items d) (case-declared n t c there room h.declared) h

case_declared-held : (n : Bytes) (t : Option ℕ) (c : Contents) → ((i : ℕ) → t ≡ Some i → i < length c.types.items) → Script c 0 → HeldStep (case_declared n t c)
case_declared-held n None c there h = tt
case_declared-held n (Some t) c there h =
    unless-held _ c (outside (with_case n t c)) (λ none.
    let below = leb-false c.limits.cases (length c.cases.items) (not_over _ limit.Cases (neither _ _ none).1) in
    case-script n t c (there t refl) below h)

pub declared-held : (d : Declaration) (c : Contents) → Script c 0 → HeldStep (declared d c)
declared-held (a_type n) c h =
    unless-held _ c (at_place (section.InType (new_draft n)) c) (λ none. (h, leb-false c.limits.types (length c.types.items) (not_over _ limit.Types (neither _ _ none).1)))
declared-held (an_actor n roles) c h =
    unless-held _ c (outside (with_actor n (role_numbers c.roles roles) (with_roles roles c))) (λ none.
    let below = leb-false c.limits.actors (length c.actors.items) (not_over _ limit.Actors (neither _ _ (neither _ _ none).1).0) in
    actor-script n (role_numbers c.roles roles) (with_roles roles c) below h)
declared-held (a_case n kind) c h =
    case_declared-held n (place_of c.types.names kind) c
    (λ i is. let within = place_within c.types.names kind i is in let names = h.declared.type_names in omega (arith, within, names)) h
declared-held first_phase c h = begun-held c h

-- ---- lines of a type
ended-held : (n : Bytes) (s : SchemaModel) (f : Option Fault) (c : Contents) → fault_of s ≡ f → Typing c → HeldStep (ended n s f c)
ended-held n s None c sound h = type-script n s c sound h.1 h.0
ended-held n s (Some f) c e h = tt

pub typed-held : (l : TypeLine) (d : Draft) (c : Contents) → Typing c → HeldStep (typed l d c)
typed-held (activity n role) d c h = h
typed-held (opens_and a b) d c h = same-held _ c _ h
typed-held (opens_xor a b role) d c h = same-held _ c _ h
typed-held (opens_branch code) d c h = h
typed-held (opens_loop a b role) d c h = same-held _ c _ h
typed-held closes_block d c h = h
typed-held (a_sync a b) d c h = same-held _ (with_node b (with_node a c)) _ h
typed-held (an_element e k) d c h = same-held _ (with_element e c) _ h
typed-held (a_read n e mandatory) d c h = same-held _ (with_element e (with_node n c)) _ h
typed-held (a_write n e) d c h = same-held _ (with_element e (with_node n c)) _ h
typed-held type_end d c h = ended-held d.name (whole d) (fault_of (whole d)) c refl h

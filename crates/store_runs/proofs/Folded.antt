-- What a store makes of a file's calls is the serial run.
use Rattle.store_runs.proofs.Common.{[], ℕ, ◌++◌, ◌+◌, ◌<◌, ◌∙◌, ◌∷◌, ◌≡◌, ◌≤◌, AllByRecursion, AllRows, and_from, and_parts, ap, append_assoc, arith, Bool, by, Call, call_of, called, calls, case_at, case_counts, CaseDecl, CaseId}
use Rattle.store_runs.proofs.Common.{changed-seam, ClosedCase, ClosedKind, create_calls, declared-typed, defined, defined_from, defined_kind, definitions, drop, eq-eqb, eqb-true, false, File, fold, folded, fresh}
use Rattle.store_runs.proofs.Common.{fresh_cases, fresh_kinds, get-changed, get-other, get_or, get_or_from_slice_get, has_case, has_id, has_names, ids-distinct, if◌then◌else◌, inl, inr, is_among, IsDeclared, IsKnown, IsKnownCall, IsPlain}
use Rattle.store_runs.proofs.Common.{IsSameRun, IsWorkable, KindEvent, kinds_behind, kinds_from, known-call, length, length-append, Line, List, migrate_calls, migrations, lt-ltb, nat_lt, newest_number, None, not_defined}
use Rattle.store_runs.proofs.Common.{on_version, opening, Option, option_map, phase_worked, place_of, plain-call, position, program, Recorded, records, refl, roles_of, Run, same_Some, serial, slice_get, slice_get-map}
use Rattle.store_runs.proofs.Common.{slice_get_within, Some, starts_of, stored_kind, stored_run, subst, suc, sym, take, Told, told_line, told_phase, told_types}
use Rattle.store_runs.proofs.{Common.{true, TypeDecl, uncalled, version_of, version_of_kind, VersionModel, zero}, CountedPlaces.{counts-size, declared-place, fresh-at, place-number, same-id, same-place}, Machines.{kinds-changed, kinds-same}}
use Rattle.store_runs.proofs.{Machines.{machines, newest-is, number}, Numbers.{AllCounted, after-event, counted-changed, found-by-number, found-when-asked}}
use Rattle.case_store.proofs.Staying.{AreThere, all-types-stay, known-append, known-there}
use Rattle.case_store.specs.Standing.{AreKnown}
use Rattle.store_calls.proofs.Payable.{call-payable, definitions-payable}
use Rattle.store_form.specs.Stored.{is_shallow}
use Rattle.store_room.specs.Room.{IsPayable}
use Rattle.std.proofs.{Math.ListN.drop_of_length-le, Math.Seq.take-length, lemmas.Bool.{ltb-false, ltb-true}, lemmas.List.drop_more, lemmas.List.Folds.Any-from_list_any, lemmas.Map.Keys.any_passes_from_place}
use Rattle.std.proofs.{lemmas.List.Sums.{fails_before_first, fold-append, passes_at_first}, lemmas.Option.{slice_get-get_or, slice_get_cases}}
use Rattle.std.specs.{List.position_or_len, Option.is_some}
use mathlib.Core.Logic.{dite}
use native.Mathlib.Decide.{ℕ_discrete}
use Rattle.case_core.specs.declared.events.Event.{Event}
use Rattle.case_core.specs.declared.events.Event.TheVariants as event
use Rattle.case_store.specs.Folding.{on_case as on_stored}
use Rattle.script_run.proofs.Each.{each-called, each-passed}
use Rattle.line_calls.specs.declared.calls.Call.TheVariants as call
use Rattle.line_calls.specs.declared.calls.Told.{Told as ToldCases}
use Rattle.line_calls.specs.declared.calls.Told.TheVariants as told
use Rattle.script_run.specs.Calls.{call_case, call_kind, called as run_called, changed_at, changed_where, created, each_of, migrated, newest, on_case, on_kind, told_to, worked}
use Rattle.store_form.specs.declared.stored.Stored.TheVariants as stored
use Rattle.type_core.specs.declared.events.KindEvent.TheVariants as kind_event

-- ---- the first case of an id
record Found (c : CaseId) (ds : List CaseDecl) : Type 0 where
  at : ℕ
  decl : CaseDecl
  first : position (has_id c) ds ≡ Some at
  there : slice_get ds at ≡ Some decl
  has : has_id c decl ≡ true

chosen : {P : Type 0} (b : Bool) → (b ≡ true → P) → (b ≡ false → P) → P
chosen true is_so is_not = is_so refl
chosen false is_so is_not = is_not refl

find : (c : CaseId) (ds : List CaseDecl) → IsDeclared c ds → Found c ds
find c ds declared =
    let (i, d, low, is, here) = Any-from_list_any (has_id c) ds declared in
    let n = position_or_len (has_id c) ds in
    chosen (nat_lt n (length ds))
    (λ within.
    let lt = ltb-true n (length ds) within in
    record { at = n; decl = get_or ds n d; first = rw within refl; there = slice_get-get_or ds n d lt; has = passes_at_first (has_id c) ds d lt })
    (λ past.
    let le = ltb-false n (length ds) past in
    let not = fails_before_first (has_id c) ds i d (omega (arith, low, le)) in
    absurd (cc (not, ap (has_id c) is ∙ here)))

id-is : (c : CaseId) (d : CaseDecl) → has_id c d ≡ true → d.id ≡ c
id-is c d is = let both = and_parts _ _ is in same-id c d.id (eqb-true d.id.type_no c.type_no both.0) (eqb-true d.id.place c.place both.1)

own-id : (d : CaseDecl) → has_id d.id d ≡ true
own-id d = rw (eq-eqb d.id.type_no d.id.type_no refl, eq-eqb d.id.place d.id.place refl)

-- ---- calls of what is there
each-item : {X : Type 0} (P : X → Type 0) (xs : List X) → ((k : ℕ) (x : X) → slice_get xs k ≡ Some x → P x) → AllByRecursion P xs
each-item P [] all = tt
each-item P (x ∷ xs) all = (all 0 x refl, each-item P xs (λ k y at. all (suc k) y at))

fresh-size : (t : ℕ) (ns : List ℕ) → length (fresh_kinds t ns) ≡ length ns
fresh-size t [] = refl
fresh-size t (n ∷ ns) = ap suc (fresh-size (t + 1) ns)

-- one call, and those behind it
first-known : (starts : List ℕ) (held : Run) (r : Recorded) (rs : List Recorded) → has_names starts held r.event ≡ true → IsPayable r → AreKnown starts (called starts held r) rs → AreKnown starts held (r ∷ rs)
first-known starts held r rs named payable more = (and_from (has_names starts held r.event) (is_shallow r.event) named payable.0, payable.1, more)

module _ (f : File) (workable : IsWorkable f) where
  abbrev starts : List ℕ
  starts = starts_of (case_counts f)

  abbrev begun : Run
  begun = fresh (case_counts f)

  declared-at : (k : ℕ) (d : CaseDecl) → slice_get f.cases k ≡ Some d → IsDeclared d.id f.cases
  declared-at k d at = any_passes_from_place (has_id d.id) f.cases k d at (own-id d)

  -- the cases of a run in order of declaration are those by type and place
  abbrev Alike : List ClosedCase → List ClosedCase → Type 0
  Alike cs held = (k : ℕ) (d : CaseDecl) → slice_get f.cases k ≡ Some d → slice_get held (place-number f d.id) ≡ slice_get cs k

  record Same (run held : Run) : Type 0 where
    kinds : held.kinds ≡ run.kinds
    cases : Alike run.cases held.cases

  called-at : (g : ClosedCase → ClosedCase) (j : ℕ) (d : CaseDecl) (cs held : List ClosedCase) → slice_get f.cases j ≡ Some d → Alike cs held
      → Alike (changed_at g j cs) (changed_at g (place-number f d.id) held)
  called-at g j d cs held at alike k e at_k =
      dite (ℕ_discrete k j) here there
    where
      there : (k ≡ j → ⊥) → slice_get (changed_at g (place-number f d.id) held) (place-number f e.id) ≡ slice_get (changed_at g j cs) k
      there other =
          get-other g (place-number f d.id) (place-number f e.id) held
          (λ is. other (ids-distinct f.cases k j e d workable.placed at_k at (same-place f workable e.id d.id (declared-at k e at_k) (declared-at j d at) is)))
          ∙ alike k e at_k ∙ sym (get-other g j k cs other)

      here : k ≡ j → slice_get (changed_at g (place-number f d.id) held) (place-number f e.id) ≡ slice_get (changed_at g j cs) k
      here equal =
          let own : e ≡ d = same_Some e d (sym at_k ∙ ap (slice_get f.cases) equal ∙ at) in
          ap (λ x. slice_get (changed_at g (place-number f d.id) held) (place-number f x.id)) own ∙ get-changed g (place-number f d.id) held
          ∙ ap (option_map g) (alike j d at) ∙ sym (get-changed g j cs) ∙ ap (slice_get (changed_at g j cs)) (sym equal)

  called-id : (g : ClosedCase → ClosedCase) (c : CaseId) (cs held : List ClosedCase) → IsDeclared c f.cases → Alike cs held
      → Alike (changed_where g (position (has_id c) f.cases) cs) (changed_where g (place_of starts c) held)
  called-id g c cs held declared alike =
      let at = find c f.cases declared in
      let place : place_of starts c ≡ Some (place-number f at.decl.id) = declared-place f workable c declared ∙ ap (λ x. Some (place-number f x)) (sym (id-is c at.decl at.has)) in
      subst (λ o. Alike (changed_where g o cs) (changed_where g (place_of starts c) held)) (sym at.first)
      (subst (λ o. Alike (changed_at g at.at cs) (changed_where g o held)) (sym place) (called-at g at.at at.decl cs held at.there alike))

  -- ---- a call of each
  on-kind : (a t : ℕ) (e : KindEvent) (run held : Run) → Same run held → Same (on_kind a t e run) (on_kind a t e held)
  on-kind a t e run held same = record { kinds = ap (changed_at (call_kind a e) t) same.kinds; cases = same.cases }

  on-case : (a : ℕ) (c : CaseId) (e : Event) (run held : Run) → IsDeclared c f.cases → Same run held → Same (on_case f a c e run) (on_stored starts a c e held)
  on-case a c e run held declared same = record { kinds = same.kinds; cases = called-id (call_case a e) c run.cases held.cases declared same.cases }

  has-version : (run held : Run) (t : ℕ) (v : VersionModel) → Same run held → version_of run t v.number ≡ Some v → version_of held t v.number ≡ Some v
  has-version run held t v same has = ap (λ ks. version_of_kind v.number (slice_get ks t)) same.kinds ∙ has

  abbrev all : Run → List Recorded → Run
  all held rs = fold (called starts) held rs

  -- each of the first so many cases of a type moves, one after another
  module _ (a t many : ℕ) (v : VersionModel) (kinds : List ClosedKind) (has : version_of_kind v.number (slice_get kinds t) ≡ Some v) (cs : List ClosedCase) where
    abbrev moved : ClosedCase → ClosedCase
    moved = call_case a (event.Migrate v)

    abbrev upto : ℕ → Run
    upto i = record { kinds = kinds; cases = each_of t many moved (take i f.cases) cs }

    one-moves : (i : ℕ) (d : CaseDecl) (held : Run) → slice_get f.cases i ≡ Some d → is_among t many d ≡ true → Same (upto i) held → Same (upto (i + 1)) (called starts held (by a (stored.Migrate d.id v.number)))
    one-moves i d held at among same =
        let of_type : d.id.type_no ≡ t = eqb-true d.id.type_no t (and_parts _ _ among).0 in
        let within = slice_get_within f.cases i d at in
        let is : d ≡ get_or f.cases i d = sym (get_or_from_slice_get f.cases i d d at) in
        let found : version_of held d.id.type_no v.number ≡ Some v = ap (λ u. version_of held u v.number) of_type ∙ ap (λ ks. version_of_kind v.number (slice_get ks t)) same.kinds ∙ has in
        let place : place_of starts d.id ≡ Some (place-number f d.id) = declared-place f workable d.id (declared-at i d at) in
        let cases : Alike (each_of t many moved (take (i + 1) f.cases) cs) (changed_where moved (place_of starts d.id) held.cases) =
        subst (λ o. Alike (each_of t many moved (take (i + 1) f.cases) cs) (changed_where moved o held.cases)) (sym place)
        (subst (λ xs. Alike xs (changed_at moved (place-number f d.id) held.cases)) (sym (each-called t many moved f.cases cs i d within is among))
        (called-at moved i d (each_of t many moved (take i f.cases) cs) held.cases at same.cases)) in
        subst (λ o. Same (upto (i + 1)) (on_version starts a d.id event.Migrate o held)) (sym found) (record { kinds = same.kinds; cases = cases })

    one-stays : (i : ℕ) (d : CaseDecl) (held : Run) → slice_get f.cases i ≡ Some d → is_among t many d ≡ false → Same (upto i) held → Same (upto (i + 1)) held
    one-stays i d held at other same =
        let within = slice_get_within f.cases i d at in
        let is : d ≡ get_or f.cases i d = sym (get_or_from_slice_get f.cases i d d at) in
        subst (λ xs. Same (record { kinds = kinds; cases = xs }) held) (sym (each-passed t many moved f.cases cs i d within is other)) same

    abbrev Done : Run → Type 0
    Done held = Same (record { kinds = kinds; cases = each_of t many moved f.cases cs }) held

    abbrev more : CaseDecl → List CaseDecl → Bool → List Recorded
    more d ds b = if b then by a (stored.Migrate d.id v.number) ∷ migrations a t many v.number ds else migrations a t many v.number ds

    moves : (n i : ℕ) (held : Run) → n + i ≡ length f.cases → Same (upto i) held → Done (all held (migrations a t many v.number (drop i f.cases)))
    moves zero i held left same =
        let end : i ≡ length f.cases = omega (arith, left) in
        subst (λ ds. Done (all held (migrations a t many v.number ds))) (sym (drop_of_length-le f.cases (omega (arith, left))))
        (subst (λ xs. Same (record { kinds = kinds; cases = each_of t many moved xs cs }) held) (ap (λ k. take k f.cases) end ∙ take-length f.cases) same)
    moves (suc n) i held left same =
        elim (slice_get_cases f.cases i).1 [
          | inl (d, low, at, is) ↦
              let cut : drop i f.cases ≡ d ∷ drop (i + 1) f.cases = drop_more f.cases i d low ∙ ap (λ x. x ∷ drop (i + 1) f.cases) is in
              subst (λ ds. Done (all held (migrations a t many v.number ds))) (sym cut)
              (chosen (is_among t many d)
              (λ among. subst (λ b. Done (all held (more d (drop (i + 1) f.cases) b))) (sym among)
              (moves n (i + 1) (called starts held (by a (stored.Migrate d.id v.number))) (omega (arith, left)) (one-moves i d held at among same)))
              (λ other. subst (λ b. Done (all held (more d (drop (i + 1) f.cases) b))) (sym other) (moves n (i + 1) held (omega (arith, left)) (one-stays i d held at other same))))
          | inr past ↦ absurd (omega (arith, left, past.0))
        ]

  -- ---- the calls of a line's call
  kind-stored : (a t : ℕ) (e : KindEvent) (held : Run) → called starts held (by a (stored_kind t e)) ≡ on_kind a t e held
  kind-stored a t (kind_event.Define schema) held = refl
  kind-stored a t (kind_event.Install ops) held = refl
  kind-stored a t kind_event.Newest held = refl

  told-kinds : (a t : ℕ) (w : ToldCases) (o : Option VersionModel) (run : Run) → (told_to f a t w o run).kinds ≡ run.kinds
  told-kinds a t (told.Create c) None run = refl
  told-kinds a t (told.Create c) (Some v) run = refl
  told-kinds a t (told.Migrate many) None run = refl
  told-kinds a t (told.Migrate many) (Some v) run = refl

  counted : (a : ℕ) (k : Call) (run : Run) → AllCounted run.kinds → AllCounted (run_called f a k run).kinds
  counted a (call.Kind t e) run all = counted-changed a t e run.kinds all
  counted a (call.Case c e) run all = all
  counted a (call.Newest t w) run all =
      subst AllCounted (sym (told-kinds a t w (newest t run) (on_kind a t kind_event.Newest run))) (counted-changed a t kind_event.Newest run.kinds all)

  -- the types that the calls are told by are those of the run
  kinds-told : (a : ℕ) (k : Call) (run : Run) → kinds_behind k (machines run.kinds) ≡ machines (run_called f a k run).kinds
  kinds-told a (call.Kind t e) run = sym (kinds-changed a t e run.kinds)
  kinds-told a (call.Case c e) run = refl
  kinds-told a (call.Newest t w) run = sym (ap machines (told-kinds a t w (newest t run) (on_kind a t kind_event.Newest run)) ∙ kinds-same a t run)

  -- a type and a case that are known are there
  abbrev HasTypes : Run → Type 0
  HasTypes held = length held.kinds ≡ length f.types

  type-there : (t : ℕ) (held : Run) → HasTypes held → t < length f.types → nat_lt t (length held.kinds) ≡ true
  type-there t held types lt = lt-ltb t (length held.kinds) (omega (arith, types, lt))

  kind-there : (t : ℕ) (e : KindEvent) (held : Run) → HasTypes held → t < length f.types → has_names starts held (stored_kind t e) ≡ true
  kind-there t (kind_event.Define schema) held types lt = type-there t held types lt
  kind-there t (kind_event.Install ops) held types lt = type-there t held types lt
  kind-there t kind_event.Newest held types lt = type-there t held types lt

  case-there : (c : CaseId) → IsDeclared c f.cases → has_case starts c ≡ true
  case-there c declared = ap is_some (declared-place f workable c declared)

  version-there : (c : CaseId) (t : ℕ) (v : VersionModel) (held : Run) → IsDeclared c f.cases → c.type_no ≡ t → version_of held t v.number ≡ Some v
      → has_names starts held (stored.Migrate c v.number) ≡ true
  version-there c t v held declared own found =
      and_from (has_case starts c) (is_some (version_of held c.type_no v.number)) (case-there c declared) (ap (λ u. is_some (version_of held u v.number)) own ∙ ap is_some found)

  -- calls that a store may make, and the run that they make
  abbrev Goes : Run → Run → List Recorded → Type 0
  Goes run held rs = AreKnown starts held rs × Same run (all held rs)

  -- a case that is created on the version that was answered
  creates : (a : ℕ) (c : CaseId) (o : Option VersionModel) (run held : Run) → IsDeclared c f.cases → ((v : VersionModel) → o ≡ Some v → version_of run c.type_no v.number ≡ Some v) → Same run held
      → Goes (created f a c o run) held (create_calls a c (number o))
  creates a c None run held declared has same = (tt, same)
  creates a c (Some v) run held declared has same =
      let there = has-version run held c.type_no v same (has v refl) in (
        first-known starts held (by a (stored.Create c v.number)) [] (version-there c c.type_no v held declared refl there) (refl, tt) tt,
        subst (λ o. Same (on_case f a c (event.Create v) run) (on_version starts a c event.Create o held)) (sym there) (on-case a c (event.Create v) run held declared same),
      )

  -- and cases that are moved to it
  moves-there : (a t many : ℕ) (v : VersionModel) (held : Run) → version_of held t v.number ≡ Some v → (ds : List CaseDecl) → AllByRecursion (λ (d : CaseDecl). IsDeclared d.id f.cases) ds
      → AreThere starts held (migrations a t many v.number ds)
  moves-there a t many v held found [] declared = tt
  moves-there a t many v held found (d ∷ ds) declared = one (is_among t many d) refl (moves-there a t many v held found ds declared.1)
    where
      one : (b : Bool) → is_among t many d ≡ b → AreThere starts held (migrations a t many v.number ds)
          → AreThere starts held (if b then by a (stored.Migrate d.id v.number) ∷ migrations a t many v.number ds else migrations a t many v.number ds)
      one true among rest =
          let own : d.id.type_no ≡ t = eqb-true d.id.type_no t (and_parts _ _ among).0 in
          ((and_from _ true (version-there d.id t v held declared.0 own found) refl, tt), rest)
      one false other rest = rest

  migrates : (a t many : ℕ) (o : Option VersionModel) (run held : Run) → ((v : VersionModel) → o ≡ Some v → version_of run t v.number ≡ Some v) → Same run held
      → Goes (migrated f a t many o run) held (migrate_calls a t many f.cases (number o))
  migrates a t many None run held has same = (tt, same)
  migrates a t many (Some v) run held has same = (
    known-there starts held (migrations a t many v.number f.cases)
        (moves-there a t many v held (has-version run held t v same (has v refl)) f.cases (each-item (λ (d : CaseDecl). IsDeclared d.id f.cases) f.cases declared-at)),
    moves a t many v run.kinds (has v refl) run.cases (length f.cases) 0 held (omega arith) same,
  )

  -- a type is asked first
  asked : (a t : ℕ) (run now held : Run) (rest : Option ℕ → List Recorded) → nat_lt t (length held.kinds) ≡ true → Goes now (on_kind a t kind_event.Newest held) (rest (number (newest t run)))
      → Goes now held (by a (stored.Newest t) ∷ rest (newest_number t (machines run.kinds)))
  asked a t run now held rest there more =
      subst (λ o. Goes now held (by a (stored.Newest t) ∷ rest o)) (sym (newest-is t run)) (first-known starts held (by a (stored.Newest t)) (rest (number (newest t run))) there (refl, tt) more.0, more.1)

  answered : (a t : ℕ) (run : Run) (v : VersionModel) → AllCounted run.kinds → newest t run ≡ Some v → version_of (on_kind a t kind_event.Newest run) t v.number ≡ Some v
  answered a t run v counted is = found-when-asked a t v.number run ∙ found-by-number run t v counted is

  makes : (a : ℕ) (k : Call) (run held : Run) → IsKnownCall (length f.types) f.cases k → IsPlain k → AllCounted run.kinds → Same run held → HasTypes held
      → Goes (run_called f a k run) held (records f.cases a (machines run.kinds) k)
  makes a (call.Kind t e) run held known plain counted same types = (
    first-known starts held (by a (stored_kind t e)) [] (kind-there t e held types known) (call-payable f.cases a (machines run.kinds) (call.Kind t e) plain).0 tt,
    subst (Same (on_kind a t e run)) (sym (kind-stored a t e held)) (on-kind a t e run held same),
  )
  makes a (call.Case c e) run held known plain counted same types =
      (first-known starts held (by a (stored.Case c e)) [] (case-there c known) (call-payable f.cases a (machines run.kinds) (call.Case c e) plain).0 tt, on-case a c e run held known same)
  makes a (call.Newest t (told.Create c)) run held (own, known) plain counted same types =
      asked a t run (run_called f a (call.Newest t (told.Create c)) run) held (create_calls a c)
      (type-there t held types (subst (λ u. u < length f.types) (sym own) (declared-typed (length f.types) f.cases c workable.typed known)))
      (creates a c (newest t run) (on_kind a t kind_event.Newest run) (on_kind a t kind_event.Newest held) known
      (λ v is. subst (λ u. version_of (on_kind a t kind_event.Newest run) u v.number ≡ Some v) own (answered a t run v counted is)) (on-kind a t kind_event.Newest run held same))
  makes a (call.Newest t (told.Migrate many)) run held known plain counted same types =
      asked a t run (run_called f a (call.Newest t (told.Migrate many)) run) held (migrate_calls a t many f.cases) (type-there t held types known.0)
      (migrates a t many (newest t run) (on_kind a t kind_event.Newest run) (on_kind a t kind_event.Newest held) (λ v. answered a t run v counted) (on-kind a t kind_event.Newest run held same))

  has-types : (rs : List Recorded) → HasTypes (folded (case_counts f) rs)
  has-types rs = all-types-stay starts begun rs ∙ fresh-size 0 (case_counts f) ∙ counts-size 0 f.types f.cases

  definitions-known : (t : ℕ) (ds : List TypeDecl) (held : Run) → t + length ds ≤ length f.types → HasTypes held → AllByRecursion IsPayable (definitions t ds) → AreKnown starts held (definitions t ds)
  definitions-known t [] held within types payable = tt
  definitions-known t (d ∷ ds) held within types payable =
      let r : Recorded = by program (stored.Define t d.schema) in
      first-known starts held r (definitions (t + 1) ds) (type-there t held types (omega (arith, within))) payable.0
      (definitions-known (t + 1) ds (called starts held r) (omega (arith, within)) (all-types-stay starts held (r ∷ []) ∙ types) payable.1)

  -- ---- a line, a phase, the file
  record IsMade (run : Run) (s : Told) : Type 0 where
    same : Same run (folded (case_counts f) s.calls)
    counts : AllCounted run.kinds
    kinds : s.kinds ≡ machines run.kinds
    known : AreKnown starts begun s.calls

  abbrev Known : Line → Type 0
  Known l = IsKnown (length f.types) (length f.actors) f.cases l

  line-made : (l : Line) (run : Run) (s : Told) → Known l → IsMade run s → IsMade (worked f run l) (told_line f s l)
  line-made l run s known made =
      let a = l.actor in
      let k = call_of a (roles_of f a) l.act in
      let held = folded (case_counts f) s.calls in
      let known_call = known-call a (roles_of f a) (length f.types) f.cases l.act known.act in
      let goes = subst (λ ks. Goes (worked f run l) held (records f.cases a ks k)) (sym made.kinds)
      (makes a k run held known_call (plain-call a (roles_of f a) l.act) made.counts made.same (has-types s.calls)) in
      record {
        same = subst (Same (worked f run l)) (sym (fold-append (called starts) (fresh (case_counts f)) s.calls (records f.cases a s.kinds k))) goes.1;
        counts = counted a k run made.counts;
        kinds = ap (kinds_behind k) made.kinds ∙ kinds-told a k run;
        known = known-append starts begun s.calls (records f.cases a s.kinds k) made.known goes.0;
      }

  lines-made : (lines : List Line) (run : Run) (s : Told) → AllRows Known lines → IsMade run s → IsMade (phase_worked f run lines) (told_phase f s lines)
  lines-made [] run s known made = made
  lines-made (l ∷ ls) run s known made = lines-made ls (worked f run l) (told_line f s l) known.1 (line-made l run s known.0 made)

  phases-made : (phases : List (List Line)) (run : Run) (s : Told) → AllRows (AllRows Known) phases → IsMade run s → IsMade (fold (phase_worked f) run phases) (fold (told_phase f) s phases)
  phases-made [] run s known made = made
  phases-made (p ∷ ps) run s known made = phases-made ps (phase_worked f run p) (told_phase f s p) known.1 (lines-made p run s known.0 made)

  -- ---- the types are defined
  defines : (done : List ClosedKind) (t : ℕ) (ds : List TypeDecl) (ns : List ℕ) (cases : List ClosedCase) → length done ≡ t → length ns ≡ length ds
      → all (record { kinds = done ++ fresh_kinds t ns; cases = cases }) (definitions t ds) ≡ record { kinds = done ++ kinds_from t ds; cases = cases }
  defines done t [] [] cases at same = refl
  defines done t [] (n ∷ ns) cases at same = absurd (omega (arith, same))
  defines done t (d ∷ ds) [] cases at same = absurd (omega (arith, same))
  defines done t (d ∷ ds) (n ∷ ns) cases at same =
      let fresh_one : ClosedKind = record { machine = not_defined t; journal = [] } in
      let one = changed-seam (call_kind program (kind_event.Define d.schema)) done t fresh_one (fresh_kinds (t + 1) ns) at in
      ap (λ ks. all (record { kinds = ks; cases = cases }) (definitions (t + 1) ds)) (one ∙ sym (append_assoc done (defined t d ∷ []) (fresh_kinds (t + 1) ns)))
      ∙ defines (done ++ defined t d ∷ []) (t + 1) ds ns cases (omega (arith, length-append done (defined t d ∷ []), at)) (omega (arith, same))
      ∙ ap (λ ks. record { kinds = ks; cases = cases }) (append_assoc done (defined t d ∷ []) (kinds_from (t + 1) ds))

  defined-counted : (t : ℕ) (ds : List TypeDecl) → AllCounted (kinds_from t ds)
  defined-counted t [] = tt
  defined-counted t (d ∷ ds) = (after-event (not_defined t) (kind_event.Define d.schema) (λ w is. absurd cc), defined-counted (t + 1) ds)

  types-same : (t : ℕ) (ds : List TypeDecl) → defined_from t ds ≡ machines (kinds_from t ds)
  types-same t [] = refl
  types-same t (d ∷ ds) = ap (λ ks. defined_kind t d ∷ ks) (types-same (t + 1) ds)

  opens : IsMade (opening f) (told_types f.types)
  opens =
      let is = defines [] 0 f.types (case_counts f) (fresh_cases 0 (case_counts f)) refl (counts-size 0 f.types f.cases) in
      record {
        same = subst (Same (opening f)) (sym is)
            (record { kinds = refl; cases = λ k d at. fresh-at f workable d.id (declared-at k d at) ∙ sym (slice_get-map uncalled f.cases k ∙ ap (option_map uncalled) at) });
        counts = defined-counted 0 f.types;
        kinds = types-same 0 f.types;
        known = definitions-known 0 f.types begun (omega arith) (has-types []) (definitions-payable 0 f.types workable.sound);
      }

  made : IsMade (serial f) (fold (told_phase f) (told_types f.types) f.phases)
  made = phases-made f.phases (opening f) (told_types f.types) workable.known opens

  -- so a store that holds the calls of a file has the types and the cases of its serial run, journals and all
  pub stored-serial : IsSameRun starts f.cases (serial f) (stored_run f)
  stored-serial = record {
    kinds = made.same.kinds;
    cases = λ k d at. ap (case_at (stored_run f)) (declared-place f workable d.id (declared-at k d at)) ∙ made.same.cases k d at;
  }

  -- and a store of its types and cases may make them
  pub file-calls : AreKnown starts begun (calls f)
  file-calls = made.known

-- What a script line makes of a run in file order: calls that the line stands for.
use Rattle.legal_run.proofs.Common.{[], ℕ, ◌&&◌, ◌+◌, ◌<◌, ◌==◌, ◌∙◌, ◌∷◌, ◌≡◌, AllRows, answered_version, ap, AreOf, ArePlaced, arith, asked, asked-known, asked_among, Bool, Call, call_case, call_kind, called, calls_of_case, calls_of_kind}
use Rattle.legal_run.proofs.Common.{case_reply, CaseDecl, CaseEntry, CaseId, cells_told, changed_where, ClosedCase, ClosedKind, Decides, each_of, Entry, entry, eq-eqb, eqb-true, Event, false, File, get_or, ids-distinct, if_among}
use Rattle.legal_run.proofs.Common.{if◌then◌else◌, inl, inr, is_case, IsDeclared, IsWorkable, kind_reply, KindEvent, length, List, lt-ltb, ltb-false, ltb-true, map, nat_lt, ne_eqb, newest-told, newest_in, None, of_kind, Option}
use Rattle.legal_run.proofs.Common.{option_and_then, option_map, place_of, put_back, range_with_len, refl, Reply, Run, same_Some, set, slice_get, slice_get-get_or, slice_get-map, slice_get_cases, slice_get_past, slice_get_read}
use Rattle.legal_run.proofs.{Common.{slice_get_within, Some, subst, suc, sym, told, told_each, told_to, true, VersionModel, versions-kept, zero}, Made.{Cells, HasGone, HasMade, HaveMade, case_cells, gone-then, have-none, id_at, id_in}}
use Rattle.legal_run.proofs.{Made.{kind_cells, made-none, takes-legal}, OnMachines.caller_of, Places.{one-becomes, some_one, there-as}, Told.{each-all, each-kind, entry_if, some-at, some-other}}
use Rattle.std.proofs.{Math.ListN.length-set, lemmas.Bool.Decides.{Decides-and, Decides-eqb, Decides-like, same_from_decides}, lemmas.List.Folds.Any-from_list_any, lemmas.List.FromFn.{get_or-map-range_with_len, length-map-range_with_len}}
use Rattle.std.proofs.lemmas.List.Sums.{position_or_len_is}
use Rattle.line_calls.specs.{Known.IsKnownCall, declared.calls.Told.Told}
use Rattle.file_model.specs.CaseCounts.{has_id, is_among}
use Rattle.script_run.specs.Calls.{on_case as case_called, on_each as each_called, on_kind as kind_called}
use Rattle.case_core.specs.declared.events.Event.TheVariants as event
use Rattle.case_core.specs.declared.replies.Reply.TheVariants as reply
use Rattle.line_calls.specs.declared.calls.Call as line
use Rattle.line_calls.specs.declared.calls.Call.TheVariants as call
use Rattle.line_calls.specs.declared.calls.Told.TheVariants as tell
use Rattle.type_core.specs.declared.events.KindEvent.TheVariants as kind_event

-- between lines a run has the file's types and cases, and each type has a version
pub record IsRunning (f : File) (r : Run) : Type 0 where
  pub types : length r.kinds ≡ length f.types
  pub cases : length r.cases ≡ length f.cases
  pub versions : (t : ℕ) (k : ClosedKind) → slice_get r.kinds t ≡ Some k → 0 < length k.machine.versions

pub running-still : (f : File) (calls : List Call) (r s : Run) → HasGone f calls r s → IsRunning f r → IsRunning f s
running-still f calls r s gone running = record {
  types = gone.kinds.many ∙ running.types;
  cases = gone.cases.many ∙ running.cases;
  versions = λ t l at_then.
      let (k, at) = there-as s.kinds r.kinds t l (sym gone.kinds.many) at_then in
      let made = gone.kinds.each t k l at at_then in
      let is = (takes-legal kind_cells.after kind_reply k.machine l.machine (calls_of_kind t calls) made.takes).1 in
      let some = running.versions t k at in
      let kept = versions-kept k.machine (calls_of_kind t calls) in
      subst (λ m. 0 < length m.versions) (sym is) (omega arith);
}

-- where one of some machines is called, each has gone on: it by that call, and the others by none
one-called : {M E R W S X : Type 0} (m : Cells M E R W S X) (calls : List Call) (xs ys : List X) (i : ℕ) (x y : X) (es : List (Entry M E R W S)) → slice_get xs i ≡ Some x → ys ≡ set xs i y → HasMade m es x y
    → ((j : ℕ) (p : X) → slice_get xs j ≡ Some p → m.on j calls ≡ (if i == j then es else [])) → HaveMade m calls xs ys
one-called m calls xs ys i x y es there now made told_it = record {
  many = ap length now ∙ length-set xs i y;
  each = λ j p q at at_then. subst (λ es. HasMade m es p q) (sym (told_it j p at)) (one-becomes (HasMade m) (made-none m) xs ys i x y es there now made j p q at at_then);
}

-- ---- a call of a type
call-kind : (f : File) (a t : ℕ) (e : KindEvent) (r : Run) (k : ClosedKind) → slice_get r.kinds t ≡ Some k → HasGone f (of_kind t (entry a e (kind_reply k.machine e)) ∷ []) r (kind_called a t e r)
call-kind f a t e r k is =
    let calls = of_kind t (entry a e (kind_reply k.machine e)) ∷ [] in
    let now = ap (put_back (call_kind a e) t r.kinds) is in
    record {
      kinds = one-called kind_cells calls r.kinds _ t k (call_kind a e k) (entry a e (kind_reply k.machine e) ∷ []) is now (record { takes = (refl, refl); grown = refl }) (λ j p at. refl);
      cases = have-none (case_cells f) calls r.cases (λ i. refl);
    }

kind-there : (f : File) (r : Run) (t : ℕ) → IsRunning f r → t < length f.types → (k : ClosedKind) × (slice_get r.kinds t ≡ Some k)
kind-there f r t running low = elim (slice_get_cases r.kinds t).1 [
  | inl there ↦ (there.0, there.2)
  | inr past ↦ absurd (let many = running.types in omega (arith, past.0))
]

-- ---- where a case was declared
case-decides : (c d : CaseId) → Decides (is_case c d) (d ≡ c)
case-decides c d = Decides-like (is_case c d)
    (λ same. subst (λ n. d ≡ record { type_no = c.type_no; place = n }) same.1 (subst (λ n. d ≡ record { type_no = n; place = d.place }) same.0 refl)) (λ same. (ap (λ (x : CaseId). x.type_no) same, ap (λ (x : CaseId). x.place) same))
    (Decides-and (d.type_no == c.type_no) (d.place == c.place) (Decides-eqb d.type_no c.type_no) (Decides-eqb d.place c.place))

module _ (f : File) (placed : ArePlaced f.cases) where
  -- no other case has its id
  own-id : (i j : ℕ) (x d : CaseDecl) → slice_get f.cases i ≡ Some x → slice_get f.cases j ≡ Some d → is_case d.id x.id ≡ (i == j)
  own-id i j x d at_i at_j =
      same_from_decides (is_case d.id x.id) (i == j)
      (Decides-like (is_case d.id x.id) (λ same. ids-distinct f.cases i j x d placed at_i at_j same) (λ same. ap (λ (y : CaseDecl). y.id) (some_one (ap (slice_get f.cases) (sym same) ∙ at_i) at_j)) (case-decides d.id x.id))
      (Decides-eqb i j)

  own-place : (i : ℕ) (d : CaseDecl) → slice_get f.cases i ≡ Some d → place_of f d.id ≡ Some i
  own-place i d at =
      let low = slice_get_within f.cases i d at in
      let by : (k : ℕ) → k < length f.cases → has_id d.id (get_or f.cases k d) ≡ (k == i) = λ k within. own-id k i (get_or f.cases k d) d (slice_get-get_or f.cases k d within) at in
      rw (position_or_len_is (has_id d.id) f.cases i d (omega arith) (λ k below. by k (omega arith) ∙ ne_eqb k i (λ same. omega arith)) (λ within. by i within ∙ eq-eqb i i refl), lt-ltb i (length f.cases) low) refl

  declared-at : (c : CaseId) → IsDeclared c f.cases → (i : ℕ) × (d : CaseDecl) × (slice_get f.cases i ≡ Some d) × (d.id ≡ c)
  declared-at c declared = let (i, d, low, is, here) = Any-from_list_any (has_id c) f.cases declared in (i, d, slice_get-get_or f.cases i d low ∙ ap Some is, (case-decides c d.id).0 here)

-- ---- a call of a case
call-case : (f : File) → IsWorkable f → (a : ℕ) (c : CaseId) (e : Event) (r : Run) → IsRunning f r → IsDeclared c f.cases → (answer : Reply) × HasGone f (told a c e answer ∷ []) r (case_called f a c e r)
call-case f workable a c e r running declared =
    let (i, x, at_x, is) = declared-at f workable.placed c declared in
    let (k, at_k) = there-as f.cases r.cases i x running.cases at_x in
    let now = ap (λ o. changed_where (call_case a e) o r.cases) (ap (place_of f) (sym is) ∙ own-place f workable.placed i x at_x) ∙ ap (put_back (call_case a e) i r.cases) at_k in
    let es : List CaseEntry = entry a e (case_reply k.machine e) ∷ [] in (
      case_reply k.machine e,
      record {
        kinds = have-none kind_cells (told a c e (case_reply k.machine e) ∷ []) r.kinds (λ t. refl);
        cases = one-called (case_cells f) (told a c e (case_reply k.machine e) ∷ []) r.cases _ i k (call_case a e k) es at_k now (record { takes = (refl, refl); grown = refl }) (λ j p at.
            let (d, at_d) = there-as r.cases f.cases j p (sym running.cases) at in
            ap (λ (b : Bool). if b then es else []) (ap (λ o. is_case (id_in o) c) at_d ∙ (ap (is_case d.id) (sym is) ∙ own-id f workable.placed i j x d at_x at_d)));
      },
    )

-- ---- a call of each of the first cases of a type
each-at : (t many : ℕ) (g : ClosedCase → ClosedCase) (ds : List CaseDecl) (cs : List ClosedCase) (i : ℕ) (d : CaseDecl) (c : ClosedCase) → slice_get ds i ≡ Some d → slice_get cs i ≡ Some c →
    slice_get (each_of t many g ds cs) i ≡ Some (if_among t many g d c)
each-at t many g [] cs i d c at_d at_c = absurd (cc)
each-at t many g (x ∷ ds) [] i d c at_d at_c = absurd (cc)
each-at t many g (x ∷ ds) (y ∷ cs) zero d c at_d at_c = rw (same_Some x d at_d, same_Some y c at_c) refl
each-at t many g (x ∷ ds) (y ∷ cs) (suc i) d c at_d at_c = each-at t many g ds cs i d c at_d at_c

length-each : (t many : ℕ) (g : ClosedCase → ClosedCase) (ds : List CaseDecl) (cs : List ClosedCase) → length (each_of t many g ds cs) ≡ length cs
length-each t many g [] cs = refl
length-each t many g (d ∷ ds) [] = refl
length-each t many g (d ∷ ds) (c ∷ cs) = ap suc (length-each t many g ds cs)

-- what a case answers; any reply where there is none
abbrev answer_in : Event → Option ClosedCase → Reply
answer_in e None = reply.NoCase
answer_in e (Some c) = case_reply c.machine e

call-each : (f : File) → IsWorkable f → (a t many : ℕ) (e : Event) (r : Run) → IsRunning f r → (rs : List Reply) × (length rs ≡ many) × HasGone f (told_each a t e 0 rs) r (each_called f a t many e r)
call-each f workable a t many e r running = (
  answers,
  length-map-range_with_len answer 0 many,
  record {
    kinds = have-none kind_cells (told_each a t e 0 answers) r.kinds (λ u. each-kind a t e u 0 answers);
    cases = record {
      many = length-each t many (call_case a e) f.cases r.cases;
      each = λ i p q at at_then.
          let (d, at_d) = there-as r.cases f.cases i p (sym running.cases) at in
          let now : if_among t many (call_case a e) d p ≡ q = some_one (each-at t many (call_case a e) f.cases r.cases i d p at_d at) at_then in
          let es : calls_of_case (id_at f i) (told_each a t e 0 answers) ≡ (if is_among t many d then entry a e (case_reply p.machine e) ∷ [] else []) =
          ap (λ o. calls_of_case (id_in o) (told_each a t e 0 answers)) at_d ∙ made i d p at_d at (d.id.type_no == t) (nat_lt d.id.place many) refl refl in
          subst (λ es. HasMade (case_cells f) es p q) (sym es) (subst (HasMade (case_cells f) _ p) now (becomes p (is_among t many d)));
    };
  },
)
  where
    -- each answers at its place
    case_in : Option ℕ → Option ClosedCase
    case_in o = option_and_then (slice_get r.cases) o

    answer : ℕ → Reply
    answer place = answer_in e (case_in (place_of f (record { type_no = t; place = place })))

    answers : List Reply
    answers = map answer (range_with_len 0 many)

    becomes : (p : ClosedCase) (b : Bool) → HasMade (case_cells f) (if b then entry a e (case_reply p.machine e) ∷ [] else []) p (if b then call_case a e p else p)
    becomes p true = record { takes = (refl, refl); grown = refl }
    becomes p false = made-none (case_cells f) p

    made : (i : ℕ) (d : CaseDecl) (p : ClosedCase) → slice_get f.cases i ≡ Some d → slice_get r.cases i ≡ Some p → (b c : Bool) → (d.id.type_no == t) ≡ b → nat_lt d.id.place many ≡ c
        → calls_of_case d.id (told_each a t e 0 answers) ≡ (if b && c then entry a e (case_reply p.machine e) ∷ [] else [])
    made i d p at_d at false c not place = ap (calls_of_case d.id) (each-all a t e 0 answers) ∙ some-other a t e d.id 0 (map (λ x. Some x) answers) (inl (λ same. let is = eq-eqb d.id.type_no t (sym same) in absurd (cc)))
    made i d p at_d at true c typed place =
        let same = eqb-true d.id.type_no t typed in
        ap (calls_of_case d.id) (each-all a t e 0 answers) ∙ (some-at a t e d.id 0 d.id.place (map (λ x. Some x) answers) (sym same) (omega arith) ∙ (ap (entry_if a e) (slice_get-map (λ x. Some x) answers d.id.place) ∙ here c place))
      where
        own : answer d.id.place ≡ case_reply p.machine e
        own =
            ap (λ n. answer_in e (case_in (place_of f (record { type_no = n; place = d.id.place })))) (sym (eqb-true d.id.type_no t typed))
            ∙ (ap (λ o. answer_in e (case_in o)) (own-place f workable.placed i d at_d) ∙ ap (answer_in e) at)

        here : (c : Bool) → nat_lt d.id.place many ≡ c → entry_if a e (option_map (λ (x : Reply). Some x) (slice_get answers d.id.place)) ≡ (if true && c then entry a e (case_reply p.machine e) ∷ [] else [])
        here true place =
            let low = ltb-true d.id.place many place in
            let read = get_or-map-range_with_len answer 0 many d.id.place d.id.place (answer d.id.place) low (omega arith) in
            ap (λ o. entry_if a e (option_map (λ (x : Reply). Some x) o)) (slice_get_read answers many d.id.place (answer d.id.place) (sym (length-map-range_with_len answer 0 many)) low (sym read)) ∙ ap (λ x. entry a e x ∷ []) own
        here false place =
            let past = slice_get_past answers d.id.place (let many' = length-map-range_with_len answer 0 many in let high = ltb-false d.id.place many place in omega arith) in
            ap (λ o. entry_if a e (option_map (λ (x : Reply). Some x) o)) past

own-each : (a t : ℕ) (e : Event) (place : ℕ) (rs : List Reply) → AllRows (λ c. caller_of c ≡ a) (told_each a t e place rs)
own-each a t e place [] = tt
own-each a t e place (r ∷ rs) = (refl, own-each a t e (place + 1) rs)

-- ---- a line
module _ (f : File) (workable : IsWorkable f) (a : ℕ) where
  -- a call of a line has made its calls, and no others
  abbrev pub HasCalled : line.Call → List Call → Run → Run → Type 0
  HasCalled k calls r s = AreOf a k calls × AllRows (λ c. caller_of c ≡ a) calls × HasGone f calls r s

  -- a type has answered its newest version, and cases are told it
  told-newest : (t : ℕ) (w : Told) (v : VersionModel) (r : Run) → IsRunning f r → IsKnownCall (length f.types) f.cases (call.Newest t w)
      → (calls : List Call) × AreOf a (call.Newest t w) (asked a t v ∷ calls) × AllRows (λ c. caller_of c ≡ a) calls × HasGone f calls r (told_to f a t w (Some v) r)
  told-newest t (tell.Create c) v r running known =
      let (answer, gone) = call-case f workable a c (event.Create v) r running known.1 in
      (told a c (event.Create v) answer ∷ [], (v, answer, refl), (refl, tt), gone)
  told-newest t (tell.Migrate many) v r running known =
      let (answers, all, gone) = call-each f workable a t many (event.Migrate v) r running in
      (told_each a t (event.Migrate v) 0 answers, (v, answers, all, refl), own-each a t (event.Migrate v) 0 answers, gone)

  pub has-called : (k : line.Call) (r : Run) → IsRunning f r → IsKnownCall (length f.types) f.cases k → (calls : List Call) × HasCalled k calls r (called f a k r)
  has-called (call.Kind t e) r running known =
      let (k, at) = kind-there f r t running known in
      (of_kind t (entry a e (kind_reply k.machine e)) ∷ [], ((kind_reply k.machine e, refl), (refl, tt), call-kind f a t e r k at))
  has-called (call.Case c e) r running known = let (answer, gone) = call-case f workable a c e r running known in (told a c e answer ∷ [], ((answer, refl), (refl, tt), gone))
  has-called (call.Newest t w) r running known =
      let (k, at) = kind-there f r t running (asked-known (length f.types) f.cases workable.typed (call.Newest t w) t known (asks w)) in
      let (v, tells) = newest-told k.machine (running.versions t k at) in
      let between = kind_called a t kind_event.Newest r in
      let first = subst (λ x. HasGone f (of_kind t (entry a kind_event.Newest x) ∷ []) r between) tells (call-kind f a t kind_event.Newest r k at) in
      let (calls, fit, own, second) = told-newest t w v between (running-still f (asked a t v ∷ []) r between first running) known in
      let gone = gone-then f (asked a t v ∷ []) calls r between (told_to f a t w (Some v) between) first second in
      (asked a t v ∷ calls, (fit, (refl, own), subst (λ o. HasGone f (asked a t v ∷ calls) r (told_to f a t w o between)) (sym (ap newest_in at ∙ ap answered_version tells)) gone))
    where
      asks : (w : Told) → asked_among (cells_told t w) ≡ Some t
      asks (tell.Create c) = refl
      asks (tell.Migrate many) = refl

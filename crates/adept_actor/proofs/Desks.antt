-- What a desk's calls leave of it.
use Rattle.adept_actor.proofs.Common.{[], ℕ, ◌&&◌, ◌++◌, ◌==◌, ◌∙◌, ◌∷◌, ◌≡◌, ◌≢◌, ap, arith, at_case, Bool, Call, CallFault, calls_of_case, calls_of_kind, CallsCase, CallsCases, CallsKind, case_after, case_pass, case_reply, CaseId}
use Rattle.adept_actor.proofs.Common.{CasePass, DeskHasDone, DeskView, drop, entry, eq-eqb, Err, Event, false, has_more, has_version, HasDone, if◌then◌else◌, in_row, inl, is_case, IsDefinedFor, IsDesk, kind_beside, KindEvent, KindPass}
use Rattle.adept_actor.proofs.Common.{KindReply, LeavesSuch, length, length-set, List, map, ne_eqb, None, of_kind, Ok, Option, refl, Reply, Result, SeesFull, set, slice_get, slice_get-map, Some, some_one, subst, suc, sym}
use Rattle.adept_actor.proofs.{Common.{there-as, told, told_some, true, zero}, Doing.{Answered, IsTold, at-set, each-told, entries_at, more-done, no-entry, none-done, one-entry, one-told, told-done, told-full, told_at}}
use Rattle.std.specs.Option.{option_map}
use mathlib.Core.Logic.{dite}
use native.Mathlib.Decide.{ℕ_discrete}
use Rattle.adept_actor.specs.Work.SeesFull.{of_kind as kind_is_full, of_case as case_is_full}
use Rattle.adept_server.proofs.{Fronts.first-even, Keeping.Beside}
use Rattle.legal_run.proofs.{OnMachines.{calls_of_kind-append, calls_of_case-append}, Told.{entry_if, some-at, some-kind, some-other}}
use Rattle.turn_cell.specs.declared.faults.CallFault.TheVariants as fault
use Rattle.type_core.specs.Machine.{kind_after, kind_reply}

-- rows of one shape have the same places
rows-there : {A B : Type 0} (rows : List (List A)) (others : List (List B)) (t place : ℕ) (x : A) → map length others ≡ map length rows → in_row place (slice_get rows t) ≡ Some x → (y : B) × (in_row place (slice_get others t) ≡ Some y)
rows-there [] others t place x many is = absurd (cc (is))
rows-there (row ∷ rows) [] t place x many is = absurd (cc (many))
rows-there (row ∷ rows) (other ∷ others) zero place x many is = there-as row other place x (cc (many)) is
rows-there (row ∷ rows) (other ∷ others) (suc t) place x many is = rows-there rows others t place x (cc (many)) is

pub case-there : {A B : Type 0} (rows : List (List A)) (others : List (List B)) (c : CaseId) (x : A) → map length others ≡ map length rows → at_case rows c ≡ Some x → (y : B) × (at_case others c ≡ Some y)
case-there rows others c x many is = rows-there rows others c.type_no c.place x many is

-- no call
pub nothing-done : (v : DeskView) → DeskHasDone [] v v
nothing-done v = record {
  number = refl;
  made = refl;
  taken = refl;
  types = refl;
  rows = refl;
  kinds = λ t p q there there_then. none-done p q (some_one there there_then);
  cases = λ c p q there there_then. none-done p q (some_one there there_then);
}

-- calls and then more
pub then-done : (calls more : List Call) (v m w : DeskView) → DeskHasDone calls v m → DeskHasDone more m w → DeskHasDone (calls ++ more) v w
then-done calls more v m w h k = record {
  number = k.number ∙ h.number;
  made = k.made ∙ h.made;
  taken = k.taken ∙ h.taken;
  types = k.types ∙ h.types;
  rows = k.rows ∙ h.rows;
  kinds = λ t p r there there_then.
      let q = there-as v.kinds m.kinds t p h.types there in
      subst (λ es. HasDone es p r) (sym (calls_of_kind-append t calls more)) (more-done (calls_of_kind t calls) (calls_of_kind t more) p q.0 r (h.kinds t p q.0 there q.1) (k.kinds t q.0 r q.1 there_then));
  cases = λ c p r there there_then.
      let q = case-there v.cases m.cases c p h.rows there in
      subst (λ es. HasDone es p r) (sym (calls_of_case-append c calls more)) (more-done (calls_of_case c calls) (calls_of_case c more) p q.0 r (h.cases c p q.0 there q.1) (k.cases c q.0 r q.1 there_then));
}

-- a type that the desk knows to be defined is known so still
pub done-defined : (calls : List Call) (v w : DeskView) → DeskHasDone calls v w → (t : ℕ) → IsDefinedFor v t → IsDefinedFor w t
done-defined calls v w k t = go (slice_get v.kinds t) refl
  where
    go : (o : Option KindPass) → slice_get v.kinds t ≡ o → has_version t o → IsDefinedFor w t
    go None is has = absurd has
    go (Some p) is has =
        let q = there-as v.kinds w.kinds t p k.types is in
        subst (has_version t) (sym q.1) (has_more t p q.0 (k.kinds t p q.0 is q.1).more has)

-- what each type and each case was told and answered, and what that leaves of a desk
pub record DeskTold (kind_told : ℕ → Answered KindEvent KindReply) (case_told : CaseId → Answered Event Reply) (v w : DeskView) : Type 0 where
  pub beside : Beside v w
  pub types : length w.kinds ≡ length v.kinds
  pub rows : map length w.cases ≡ map length v.cases
  pub kinds : (t : ℕ) → IsTold kind_after kind_reply (kind_told t) (slice_get v.kinds t) (slice_get w.kinds t)
  pub cases : (c : CaseId) → IsTold case_after case_reply (case_told c) (case_pass v c) (case_pass w c)

module _ (kind_told : ℕ → Answered KindEvent KindReply) (case_told : CaseId → Answered Event Reply) (v w : DeskView) (k : DeskTold kind_told case_told v w) where
  -- the calls that it grows by
  pub desk-done : IsDesk v → (calls : List Call) → ((t : ℕ) → entries_at v.number (kind_told t) ≡ calls_of_kind t calls) → ((c : CaseId) → entries_at v.number (case_told c) ≡ calls_of_case c calls) → DeskHasDone calls v w
  desk-done desk calls kinds cases = record {
    number = k.beside.number;
    made = k.beside.made;
    taken = k.beside.taken;
    types = k.types;
    rows = k.rows;
    kinds = λ t p q at at_then. subst (λ es. HasDone es p q) (kinds t) (told-done kind_after kind_reply v.number (kind_told t) _ _ (k.kinds t) p q at at_then (desk.kinds t p at).number);
    cases = λ c p q at at_then. subst (λ es. HasDone es p q) (cases c) (told-done case_after case_reply v.number (case_told c) _ _ (k.cases c) p q at at_then (desk.cases c p at).number);
  }

  -- a cell that was told nothing is as before
  pub desk-leaves : (SuchKind : ℕ → Type 0) (SuchCase : CaseId → Type 0) → ((t : ℕ) → SuchKind t → kind_told t ≡ None) → ((c : CaseId) → SuchCase c → case_told c ≡ None) → LeavesSuch SuchKind SuchCase v w
  desk-leaves SuchKind SuchCase kinds cases = record {
    kinds = λ t such. subst (λ a. IsTold kind_after kind_reply a (slice_get v.kinds t) (slice_get w.kinds t)) (kinds t such) (k.kinds t);
    cases = λ c such. subst (λ a. IsTold case_after case_reply a (case_pass v c) (case_pass w c)) (cases c such) (k.cases c);
  }

  -- where a cell answers that its journal is full, the desk has seen that
  pub kind-full : (t : ℕ) (e : KindEvent) → kind_told t ≡ Some (e, Err fault.Full) → SeesFull w
  kind-full t e is = let (q, at, full) = told-full kind_after kind_reply e (slice_get v.kinds t) (slice_get w.kinds t) (subst (λ a. IsTold kind_after kind_reply a (slice_get v.kinds t) (slice_get w.kinds t)) is (k.kinds t)) in kind_is_full t q at full

  pub case-full : (c : CaseId) (e : Event) → case_told c ≡ Some (e, Err fault.Full) → SeesFull w
  case-full c e is = let (q, at, full) = told-full case_after case_reply e (case_pass v c) (case_pass w c) (subst (λ a. IsTold case_after case_reply a (case_pass v c) (case_pass w c)) is (k.cases c)) in case_is_full c q at full

-- one type was told an event, one case was, and the first cases of a type
abbrev pub kind_only : KindEvent → ℕ → Result KindReply CallFault → ℕ → Answered KindEvent KindReply
kind_only e t answer u = if t == u then Some (e, answer) else None

abbrev pub case_only : Event → CaseId → Result Reply CallFault → CaseId → Answered Event Reply
case_only e id answer c = if is_case c id then Some (e, answer) else None

abbrev pub first_cases : Event → ℕ → List (Result Reply CallFault) → CaseId → Answered Event Reply
first_cases e t answers c = if t == c.type_no then told_at e (slice_get answers c.place) else None

pub kind-told : (e : KindEvent) (t : ℕ) (answer : Result KindReply CallFault) (v w : DeskView) → CallsKind e t answer v w → DeskTold (kind_only e t answer) (λ c. None) v w
kind-told e t answer v w k =
    let same_cases : w.cases ≡ v.cases = ap (λ (x : DeskView). x.cases) k.others in
    record {
      beside = kind_beside e t answer v w k;
      types = ap length k.called.others ∙ length-set v.kinds t k.called.behind;
      rows = ap (map length) same_cases;
      kinds = one-told kind_after kind_reply e t answer v.kinds w.kinds k.called;
      cases = λ c. ap (λ rows. at_case rows c) same_cases;
    }

-- rows stay as long
rows-set : {A : Type 0} (rows : List (List A)) (t : ℕ) (row new : List A) → slice_get rows t ≡ Some row → length new ≡ length row → map length (set rows t new) ≡ map length rows
rows-set [] t row new there many = refl
rows-set (x ∷ rows) zero row new there many = let same : x ≡ row = cc (there) in ap (λ n. n ∷ map length rows) (many ∙ ap length (sym same))
rows-set (x ∷ rows) (suc t) row new there many = ap (λ ns. length x ∷ ns) (rows-set rows t row new there many)

-- cases of one type were told
row-told : (t : ℕ) (row new : List CasePass) (answers : ℕ → Answered Event Reply) (case_told : CaseId → Answered Event Reply) (v w : DeskView) → slice_get v.cases t ≡ Some row → w ≡ record v { cases = set v.cases t new } → length new ≡ length row
    → ((j : ℕ) → IsTold case_after case_reply (answers j) (slice_get row j) (slice_get new j)) → ((c : CaseId) → (if t == c.type_no then answers c.place else None) ≡ case_told c) → DeskTold (λ u. None) case_told v w
row-told t row new answers case_told v w there is many told same = subst (DeskTold (λ u. None) case_told v) (sym is) (record {
  beside = record { number = refl; made = refl; taken = refl };
  types = refl;
  rows = rows-set v.cases t row new there many;
  kinds = λ u. refl;
  cases = λ c.
      subst (λ a. IsTold case_after case_reply a (case_pass v c) (at_case (set v.cases t new) c)) (same c)
      (at-set (λ b o u. IsTold case_after case_reply (if b then answers c.place else None) (in_row c.place o) (in_row c.place u)) v.cases t row new there (told c.place) (λ o. refl) c.type_no);
})

pub case-told : (e : Event) (id : CaseId) (answer : Result Reply CallFault) (v w : DeskView) → CallsCase e id answer v w → DeskTold (λ u. None) (case_only e id answer) v w
case-told e id answer v w k =
    row-told id.type_no k.row k.row_behind (λ j. if id.place == j then Some (e, answer) else None) (case_only e id answer) v w k.there k.others (ap length k.called.others ∙ length-set k.row id.place k.called.behind)
    (one-told case_after case_reply e id.place answer k.row k.row_behind k.called) (λ c. both (id.type_no == c.type_no) (id.place == c.place))
  where
    told : Answered Event Reply
    told = Some (e, answer)

    both : (b d : Bool) → (if b then if d then told else None else None) ≡ (if b && d then told else None)
    both true d = refl
    both false d = refl

pub cases-told : (e : Event) (t many : ℕ) (answers : List (Result Reply CallFault)) (v w : DeskView) → CallsCases e t many answers v w → DeskTold (λ u. None) (first_cases e t answers) v w
cases-told e t many answers v w k =
    row-told t k.row (k.front ++ drop many k.row) (λ j. told_at e (slice_get answers j)) (first_cases e t answers) v w k.there k.others (first-even case_after case_reply e many answers k.row k.front k.called)
    (each-told case_after case_reply e many k.row answers k.front k.called) (λ c. refl)

-- the calls of a type, of a case, and of cases of a type one after another: there is none where there was a fault
abbrev pub kind_calls : ℕ → KindEvent → ℕ → Result KindReply CallFault → List Call
kind_calls n e t (Ok r) = of_kind t (entry n e r) ∷ []
kind_calls n e t (Err f) = []

abbrev pub case_calls : ℕ → Event → CaseId → Result Reply CallFault → List Call
case_calls n e id (Ok r) = told n id e r ∷ []
case_calls n e id (Err f) = []

abbrev pub reply_in : Result Reply CallFault → Option Reply
reply_in (Ok r) = Some r
reply_in (Err f) = None

abbrev pub each_calls : ℕ → Event → ℕ → List (Result Reply CallFault) → List Call
each_calls n e t answers = told_some n t e 0 (map reply_in answers)

pub kind-done : (e : KindEvent) (t : ℕ) (answer : Result KindReply CallFault) (v w : DeskView) → IsDesk v → CallsKind e t answer v w → DeskHasDone (kind_calls v.number e t answer) v w
kind-done e t answer v w desk k = let (kinds, cases) = calls answer in desk-done (kind_only e t answer) (λ c. None) v w (kind-told e t answer v w k) desk (kind_calls v.number e t answer) kinds cases
  where
    calls : (a : Result KindReply CallFault) → ((u : ℕ) → entries_at v.number (kind_only e t a u) ≡ calls_of_kind u (kind_calls v.number e t a)) × ((c : CaseId) → [] ≡ calls_of_case c (kind_calls v.number e t a))
    calls (Ok r) = (λ u. one-entry v.number e r (t == u), λ c. refl)
    calls (Err f) = (λ u. no-entry v.number e f (t == u), λ c. refl)

pub case-done : (e : Event) (id : CaseId) (answer : Result Reply CallFault) (v w : DeskView) → IsDesk v → CallsCase e id answer v w → DeskHasDone (case_calls v.number e id answer) v w
case-done e id answer v w desk k = let (kinds, cases) = calls answer in desk-done (λ u. None) (case_only e id answer) v w (case-told e id answer v w k) desk (case_calls v.number e id answer) kinds cases
  where
    calls : (a : Result Reply CallFault) → ((u : ℕ) → [] ≡ calls_of_kind u (case_calls v.number e id a)) × ((c : CaseId) → entries_at v.number (case_only e id a c) ≡ calls_of_case c (case_calls v.number e id a))
    calls (Ok r) = (λ u. refl, λ c. one-entry v.number e r (is_case c id))
    calls (Err f) = (λ u. refl, λ c. no-entry v.number e f (is_case c id))

pub cases-done : (e : Event) (t many : ℕ) (answers : List (Result Reply CallFault)) (v w : DeskView) → IsDesk v → CallsCases e t many answers v w → DeskHasDone (each_calls v.number e t answers) v w
cases-done e t many answers v w desk k =
    desk-done (λ u. None) (first_cases e t answers) v w (cases-told e t many answers v w k) desk (each_calls v.number e t answers) (λ u. sym (some-kind v.number t e u 0 (map reply_in answers)))
    (λ c. dite (ℕ_discrete t c.type_no)
    (λ (same : t ≡ c.type_no).
    subst (λ b. entries_at v.number (if b then told_at e (slice_get answers c.place) else None) ≡ calls_of_case c (each_calls v.number e t answers)) (sym (eq-eqb t c.type_no same))
    (sym (some-at v.number t e c 0 c.place (map reply_in answers) same (omega arith) ∙ (ap (entry_if v.number e) (slice_get-map reply_in answers c.place) ∙ entry-of (slice_get answers c.place)))))
    (λ (not : t ≢ c.type_no).
    subst (λ b. entries_at v.number (if b then told_at e (slice_get answers c.place) else None) ≡ calls_of_case c (each_calls v.number e t answers)) (sym (ne_eqb t c.type_no not)) (sym (some-other v.number t e c 0 (map reply_in answers) (inl not)))))
  where
    entry-of : (o : Option (Result Reply CallFault)) → entry_if v.number e (option_map reply_in o) ≡ entries_at v.number (told_at e o)
    entry-of None = refl
    entry-of (Some (Ok r)) = refl
    entry-of (Some (Err f)) = refl

-- What stands first in an actor's queues are the calls of its next line.
use Rattle.std.proofs.Common.{add-one, ◌≡◌, ◌≢◌, ℕ, zero, suc, ◌+◌, ◌<◌, ◌≤◌, ◌==◌, eqb, eq-eqb, true, false, List, [], ◌∷◌, ◌++◌, filter, length, map, take, Option, Some, refl, sym, ap, ◌∙◌, subst, arith, inl, inr, if◌then◌else◌, nat_lt, option_map, slice_get, Bool}
use Rattle.std.proofs.{lemmas.Bool.{eqb-true, lt-ltb}, lemmas.List.take_all}
use Rattle.audit_model.proofs.Common.{AllRows, and_from, AreCallsOf, AreCallsOfLines, AreOf, ArePlaced, Asked, asked, asked-known, asked_among, asks, call_of, calls_case, calls_kind, case_event_of, CaseDecl, CaseEntry, CaseId, cases_of_type, cells-same, cells_in, count_by_more_no, count_by_more_yes, Entry, entry, Event, File}
use Rattle.audit_model.proofs.Common.{get_or_from_slice_get, has_case, has_id, has_kind, is_case, keeps, IsDeclared, IsKnownAct, IsKnownCall, IsWorkable, kind_event-same, KindEntry, KindEvent, KindReply, known-call, Line, of_kind, plain-call, Reply, rest_of, roles_of, same_Some, slice_get_cases, slice_get_within, told, told_each, told_in, VersionModel}
use Rattle.audit_model.proofs.Common.{actor_of, by-test, cases_Bool, case_reply, case_after, kind_event_of, kind_reply, kind_after, Fit}
use Rattle.audit_model.proofs.Common.{case_event_in as event_of_case, kind_event_in as event_of_kind}
use Rattle.audit_model.proofs.{Calls.{AreAsked, asks-known, FitCase, FitKind, KnownOwn, Told, told-then, told-version}, OwnLines.{HasVersion, OwnTelling, asked_own, line_actor, own_left, own_then, own_version, to_case, to_kind}}
use Rattle.audit_model.proofs.Queues.{ahead, CaseQueues, KindQueues, calls_along, calls_at, calls_in, cases_left, cases_then, id_at, if-split, kinds_left, kinds_then, of_each, of_one}
use Rattle.file_facts.proofs.Lists.{any-at}
use Rattle.line_calls.specs.declared.calls.Call.{Call}
use mathlib.Core.Logic.{dite}
use native.Mathlib.Decide.{ℕ_discrete}
use Rattle.case_core.specs.declared.events.Event.TheVariants as event
use Rattle.line_calls.specs.declared.calls.Call.TheVariants as call
use Rattle.line_calls.specs.declared.calls.Told.TheVariants as tell
use Rattle.type_core.specs.declared.events.KindEvent.TheVariants as kind_event
use Rattle.type_core.specs.declared.replies.KindReply.TheVariants as kind_answer

-- ---- places of a type have cases
some-case : (cases : List CaseDecl) → ArePlaced cases → (t i n : ℕ) → n ≤ length cases → i < cases_of_type t (take n cases) → IsDeclared (id_at t i) cases
some-case cases placed t i zero few low = absurd (omega (arith, low))
some-case cases placed t i (suc n) few low = elim (slice_get_cases cases n).1 [
  | inl there ↦ of_case_at (λ below. some-case cases placed t i n (omega (arith, few)) below) there.0 there.2
  | inr past ↦ absurd (omega (arith, past.0, few))
]
  where
    of_case_at : (i < cases_of_type t (take n cases) → IsDeclared (id_at t i) cases) → (d : CaseDecl) → slice_get cases n ≡ Some d → IsDeclared (id_at t i) cases
    of_case_at earlier d at =
        let within = slice_get_within cases n d at in
        let is_d = ap (λ (e : CaseDecl). e.id.type_no == t) (get_or_from_slice_get cases n d d at) in
        let low_then : i < cases_of_type t (take (n + 1) cases) = rw add-one low in
        elim (cases_Bool (d.id.type_no == t)) [
          | inl own ↦
              let more : cases_of_type t (take (n + 1) cases) ≡ cases_of_type t (take n cases) + 1 = count_by_more_yes (λ (e : CaseDecl). e.id.type_no == t) cases n d within (is_d ∙ own) in
              let place : d.id.place ≡ cases_of_type t (take n cases) = subst (λ u. d.id.place ≡ cases_of_type u (take n cases)) (eqb-true d.id.type_no t own) (placed n d at) in
              dite (ℕ_discrete i d.id.place)
              (λ (here : i ≡ d.id.place). any-at (has_id (id_at t i)) cases n d at (and_from (d.id.type_no == t) (d.id.place == i) own (eq-eqb d.id.place i (sym here))))
              (λ (not : i ≢ d.id.place). earlier (omega (arith, more, low_then, place, not)))
          | inr other ↦
              let same : cases_of_type t (take (n + 1) cases) ≡ cases_of_type t (take n cases) = count_by_more_no (λ (e : CaseDecl). e.id.type_no == t) cases n d within (is_d ∙ other) in
              earlier (omega (arith, same, low_then))
        ]

pub place-declared : (f : File) → IsWorkable f → (t i : ℕ) → i < cases_of_type t f.cases → IsDeclared (id_at t i) f.cases
place-declared f workable t i low =
    some-case f.cases workable.placed t i (length f.cases) (omega arith) (subst (λ ds. i < cases_of_type t ds) (sym (take_all (length f.cases) f.cases (omega arith))) low)

-- ---- entries of an actor
-- who asked for the newest version was told one
abbrev pub TellsVersion : KindEntry → Type 0
TellsVersion e = e.event ≡ kind_event.Newest → (v : VersionModel) × (e.reply ≡ kind_answer.Is v)

entry-is : {M E R W S : Type 0} (x : Entry M E R W S) (a : ℕ) (e : E) (r : R) → x.caller ≡ a → x.event ≡ e → x.reply ≡ r → x ≡ entry a e r
entry-is {M} {E} {R} {W} {S} x a e r one two three =
    let here : Entry M E R W S → Entry M E R W S = λ y. y in
    ap (λ n. here (entry n x.event x.reply)) one ∙ (ap (λ y. here (entry a y x.reply)) two ∙ ap (λ y. here (entry a e y)) three)

-- the first of entries of an actor that fit lines: it has the event of the first line
first-of : {M E R W S L : Type 0} (after : S → E → S) (reply : S → E → R) (by : L → ℕ) (event : L → Option E) (P : Entry M E R W S → Type 0) (a : ℕ) (es : List (Entry M E R W S)) (l : L) (ls : List L) (e : E)
    → Fit after reply by event es (l ∷ ls) → event l ≡ Some e → AllRows (λ x. (x.caller ≡ a) × P x) es → (r : R) × (others : List (Entry M E R W S)) × (es ≡ entry a e r ∷ others) × P (entry a e r)
first-of after reply by event P a [] l ls e fit is own = absurd fit
first-of after reply by event P a (x ∷ es) l ls e (here, fit) is (own, all) =
    let same = entry-is x a e x.reply own.0 (same_Some x.event e (sym here ∙ is)) refl in
    (x.reply, es, ap (λ y. y ∷ es) same, subst P same own.1)

-- where test and other test are one number's
own-one : {X : Type 0} (t : ℕ) (xs ys : List X) → (if eqb t t then xs else []) ≡ (if eqb t t then ys else []) → xs ≡ ys
own-one t xs ys same = subst (λ b. (if b then xs else []) ≡ (if b then ys else [])) (eq-eqb t t refl) same

module _ (f : File) (workable : IsWorkable f) (a : ℕ) where
  abbrev pub AnyEntry : CaseEntry → Type 0
  AnyEntry e = Unit {0}

  -- an actor's queues are ready for its lines, where it is told so much
  pub record AsksReady (K : KindQueues) (r : OwnTelling) (ls : List Line) : Type 0 where
    pub kinds : (t : ℕ) → t < length f.types → FitKind (K t) (filter (to_kind t) ls)
    pub own : (t : ℕ) → t < length f.types → AllRows (λ e. (e.caller ≡ a) × TellsVersion e) (K t)
    pub told : Told a (length f.types) r K

  pub record CasesReady (C : CaseQueues) (r : OwnTelling) (ls : List Line) : Type 0 where
    pub cases : (c : CaseId) → IsDeclared c f.cases → FitCase f (C c) (filter (to_case c) (asked_own r ls))
    pub own : (c : CaseId) → IsDeclared c f.cases → AllRows (λ e. (e.caller ≡ a) × AnyEntry e) (C c)

  -- ---- what types have of a line's call
  abbrev FirstKind : KindQueues → ℕ → KindEvent → Type 0
  FirstKind K t e = (r : KindReply) × (others : List KindEntry) × (K t ≡ entry a e r ∷ others) × TellsVersion (entry a e r)

  abbrev firsts : KindQueues → Call → KindQueues
  firsts K k u = if has_kind u (cells_in k) then ahead (K u) else []

  at-type : (K : KindQueues) (t u : ℕ) (x : KindEntry) (others : List KindEntry) → K t ≡ x ∷ others → (if eqb t u then ahead (K u) else []) ≡ (if eqb t u then x ∷ [] else [])
  at-type K t u x others queue = by-test (λ b. (if b then ahead (K u) else []) ≡ (if b then x ∷ [] else [])) (eqb t u) (λ same. ap (λ n. ahead (K n)) (sym (eqb-true t u same)) ∙ ap ahead queue) (λ other. refl)

  newest-at : (K : KindQueues) (t : ℕ) → FirstKind K t kind_event.Newest → (v : VersionModel) × ((u : ℕ) → (if eqb t u then ahead (K u) else []) ≡ (if eqb t u then entry a kind_event.Newest (kind_answer.Is v) ∷ [] else []))
  newest-at K t (r, others, queue, tells) =
      let (v, is) = tells refl in
      (v, λ u. at-type K t u (entry a kind_event.Newest (kind_answer.Is v)) others (queue ∙ ap (λ (y : KindReply). entry a kind_event.Newest y ∷ others) is))

  asked-by : (K : KindQueues) (k : Call) → IsKnownCall (length f.types) f.cases k → ((t : ℕ) → t < length f.types → has_kind t (cells_in k) ≡ true → (e : KindEvent) → event_of_kind k ≡ Some e → FirstKind K t e) → AreAsked a k (firsts K k)
  asked-by K (call.Kind t e) low first = let (r, others, queue, tells) = first t low (eq-eqb t t refl) e refl in (r, λ u. at-type K t u (entry a e r) others queue)
  asked-by K (call.Case c e) known first = λ u. refl
  asked-by K (call.Newest t (tell.Create c)) known first = newest-at K t (first t (asked-known (length f.types) f.cases workable.typed (call.Newest t (tell.Create c)) t known refl) (eq-eqb t t refl) kind_event.Newest refl)
  asked-by K (call.Newest t (tell.Migrate many)) known first = newest-at K t (first t known.0 (eq-eqb t t refl) kind_event.Newest refl)

  -- by whomever the line is called
  asks-first : (K : KindQueues) (r : OwnTelling) (l : Line) (ls : List Line) → IsKnownAct (length f.types) f.cases l.act → AsksReady K r (l ∷ ls) → (b : ℕ) (roles : List ℕ) → AreAsked a (call_of b roles l.act) (firsts K (call_of b roles l.act))
  asks-first K r l ls known ready b roles =
      asked-by K (call_of b roles l.act) (known-call b roles (length f.types) f.cases l.act known)
      (λ t low calls e is.
      let called = subst (λ x. has_kind t x ≡ true) (cells-same b roles l.act) calls in
      first-of kind_after kind_reply line_actor kind_event_of TellsVersion a (K t) l (filter (to_kind t) ls) e (subst (FitKind (K t)) (keeps (to_kind t) l ls called) (ready.kinds t low)) (sym (kind_event-same b roles l.act) ∙ is) (ready.own t low))

  told-firsts : (K : KindQueues) (r : OwnTelling) (k : Call) → Told a (length f.types) r K → Told a (length f.types) r (λ u. firsts K k u ++ (if has_kind u (cells_in k) then rest_of (K u) else K u))
  told-firsts K r k told u low = let (more, queue) = told u low in (more, queue ∙ ap (λ (es : List KindEntry). told_in es ++ more) (sym (if-split (has_kind u (cells_in k)) (K u))))

  -- there is a version for each line that asks
  version-by : (k : Call) (one Q : KindQueues) (r : OwnTelling) → AreAsked a k one → Told a (length f.types) r (λ u. one u ++ Q u) → ((t : ℕ) → asked_among (cells_in k) ≡ Some t → t < length f.types)
      → (t : ℕ) → asked_among (cells_in k) ≡ Some t → (v : VersionModel) × (own_version r (asked_among (cells_in k)) ≡ Some v)
  version-by (call.Newest u (tell.Create c)) one Q r (v, asked_is) told known t is = (v, told-version a (length f.types) u v one Q r asked_is told (known u refl))
  version-by (call.Newest u (tell.Migrate many)) one Q r (v, asked_is) told known t is = (v, told-version a (length f.types) u v one Q r asked_is told (known u refl))
  version-by k one Q r asked_is told known t is = absurd (cc (is))

  -- ---- the calls of a line
  -- what each case has of it
  abbrev FirstCase : CaseQueues → CaseId → Event → Type 0
  FirstCase C c e = (r : Reply) × (others : List CaseEntry) × (C c ≡ entry a e r ∷ others) × AnyEntry (entry a e r)

  told-first : (C : CaseQueues) (r : OwnTelling) (l : Line) (ls : List Line) → l.actor ≡ a → CasesReady C r (l ∷ ls) → (c : CaseId) → IsDeclared c f.cases → calls_case c l.act ≡ true → (e : Event)
      → event_of_case (own_version r (asks l.act)) (call_of a (roles_of f a) l.act) ≡ Some e → FirstCase C c e
  told-first C r l ls own ready c declared calls e is =
      let x : Asked = (l, own_version r (asks l.act)) in
      let rest = asked_own (own_then r (asks l.act)) ls in
      first-of case_after case_reply actor_of (case_event_of f) AnyEntry a (C c) x (filter (to_case c) rest) e (subst (FitCase f (C c)) (keeps (to_case c) x rest calls) (ready.cases c declared))
      (ap (λ b. event_of_case x.1 (call_of b (roles_of f b) l.act)) own ∙ is) (ready.own c declared)

  -- each of the first cases of a type
  each-told : (C : CaseQueues) (t many : ℕ) (e : Event) → ((place : ℕ) → place < many → FirstCase C (id_at t place) e) → (n place : ℕ) → place + n ≡ many → (rs : List Reply) × (length rs ≡ n) × (of_each C t place n ≡ told_each a t e place rs)
  each-told C t many e first zero place all = ([], refl, refl)
  each-told C t many e first (suc n) place all =
      let (y, others, queue, any) = first place (omega (arith, all)) in
      let (rs, as_many, more) = each-told C t many e first n (place + 1) (omega (arith, all)) in
      (y ∷ rs, ap suc as_many, ap (λ es. of_one (id_at t place) es ++ of_each C t (place + 1) n) queue ∙ ap (λ xs. told a (id_at t place) e y ∷ xs) more)

  same-case : (c : CaseId) → is_case c c ≡ true
  same-case c = and_from (c.type_no == c.type_no) (c.place == c.place) (eq-eqb c.type_no c.type_no refl) (eq-eqb c.place c.place refl)

  calls-are : (K : KindQueues) (C : CaseQueues) (Q : KindQueues) (r : OwnTelling) (k : Call) → IsKnownCall (length f.types) f.cases k → AreAsked a k (firsts K k) → Told a (length f.types) r (λ u. firsts K k u ++ Q u)
      → ((c : CaseId) → IsDeclared c f.cases → has_case c (cells_in k) ≡ true → (e : Event) → event_of_case (own_version r (asked_among (cells_in k))) k ≡ Some e → FirstCase C c e) → AreOf a k (calls_in K C (cells_in k))
  calls-are K C Q r (call.Kind t e) low (x, is) to_tell cases = (x, ap (map (of_kind t)) (own-one t (ahead (K t)) (entry a e x ∷ []) (is t)))
  calls-are K C Q r (call.Case c e) known is to_tell cases = let (y, others, queue, any) = cases c known (same-case c) e refl in (y, ap (of_one c) queue)
  calls-are K C Q r (call.Newest t (tell.Create c)) (own, known) (v, is) to_tell cases =
      let k = call.Newest t (tell.Create c) in
      let version = told-version a (length f.types) t v (firsts K k) Q r is to_tell (asked-known (length f.types) f.cases workable.typed k t (own, known) refl) in
      let (y, others, queue, any) = cases c known (same-case c) (event.Create v) (ap (option_map event.Create) version) in
      let first = own-one t (ahead (K t)) (entry a kind_event.Newest (kind_answer.Is v) ∷ []) (is t) in
      (v, y, ap (λ es. map (of_kind t) es ++ of_one c (C c)) first ∙ ap (λ es. asked a t v ∷ of_one c es) queue)
  calls-are K C Q r (call.Newest t (tell.Migrate many)) (low, few) (v, is) to_tell cases =
      let version = told-version a (length f.types) t v (firsts K (call.Newest t (tell.Migrate many))) Q r is to_tell low in
      let (rs, as_many, calls) = each-told C t many (event.Migrate v)
      (λ place below. cases (id_at t place) (place-declared f workable t place (omega (arith, below, few))) (and_from (t == t) (nat_lt place many) (eq-eqb t t refl) (lt-ltb place many below)) (event.Migrate v) (ap (option_map event.Migrate) version))
      many 0 (omega arith) in
      let first = own-one t (ahead (K t)) (entry a kind_event.Newest (kind_answer.Is v) ∷ []) (is t) in
      (v, rs, as_many, ap (λ es. map (of_kind t) es ++ of_each C t 0 many) first ∙ ap (λ xs. asked a t v ∷ xs) calls)

  line-calls : (K : KindQueues) (C : CaseQueues) (r : OwnTelling) (l : Line) (ls : List Line) → IsKnownAct (length f.types) f.cases l.act → l.actor ≡ a → AsksReady K r (l ∷ ls) → CasesReady C r (l ∷ ls)
      → AreCallsOf (roles_of f a) a l.act (calls_at K C l.act)
  line-calls K C r l ls known own asking telling =
      let k = call_of a (roles_of f a) l.act in
      let cells = cells-same a (roles_of f a) l.act in
      subst (λ x. AreOf a k (calls_in K C x)) cells
      (calls-are K C (λ u. if has_kind u (cells_in k) then rest_of (K u) else K u) r k (known-call a (roles_of f a) (length f.types) f.cases l.act known) (asks-first K r l ls known asking a (roles_of f a)) (told-firsts K r k asking.told)
      (λ c declared calls e is. told-first C r l ls own telling c declared (subst (λ x. has_case c x ≡ true) cells calls) e (subst (λ x. event_of_case (own_version r (asked_among x)) k ≡ Some e) cells is)))

  -- ---- behind a line
  rest-fits : {X Y : Type 0} (P : List X → List Y → Type 0) (fits : (xs : List X) (y : Y) (ys : List Y) → P xs (y ∷ ys) → P (rest_of xs) ys) (test : Bool) (xs : List X) (y : Y) (ys : List Y) → P xs (if test then y ∷ ys else ys) → P (if test then rest_of xs else xs) ys
  rest-fits P fits true xs y ys fit = fits xs y ys fit
  rest-fits P fits false xs y ys fit = fit

  fit-rest : {M E R W S L : Type 0} (after : S → E → S) (reply : S → E → R) (by : L → ℕ) (event : L → Option E) (es : List (Entry M E R W S)) (l : L) (ls : List L) → Fit after reply by event es (l ∷ ls) → Fit after reply by event (rest_of es) ls
  fit-rest after reply by event [] l ls fit = absurd fit
  fit-rest after reply by event (e ∷ es) l ls fit = fit.1

  rest-rows : {X : Type 0} (P : X → Type 0) (test : Bool) (xs : List X) → AllRows P xs → AllRows P (if test then rest_of xs else xs)
  rest-rows P true [] all = tt
  rest-rows P true (x ∷ xs) all = all.1
  rest-rows P false xs all = all

  asks-then : (K : KindQueues) (r : OwnTelling) (l : Line) (ls : List Line) → IsKnownAct (length f.types) f.cases l.act → AsksReady K r (l ∷ ls) → AsksReady (kinds_then K l.act) (own_then r (asks l.act)) ls
  asks-then K r l ls known ready =
      let k = call_of 0 [] l.act in
      record {
        kinds = λ t low. rest-fits FitKind (fit-rest kind_after kind_reply line_actor kind_event_of) (calls_kind t l.act) (K t) l (filter (to_kind t) ls) (ready.kinds t low);
        own = λ t low. rest-rows (λ e. (e.caller ≡ a) × TellsVersion e) (calls_kind t l.act) (K t) (ready.own t low);
        told = told-then a (length f.types) k (firsts K k) (kinds_then K l.act) r (plain-call 0 [] l.act) (asks-first K r l ls known ready 0 []) (told-firsts K r k ready.told);
      }

  cases-then : (C : CaseQueues) (r : OwnTelling) (l : Line) (ls : List Line) → CasesReady C r (l ∷ ls) → CasesReady (cases_then C l.act) (own_then r (asks l.act)) ls
  cases-then C r l ls ready = record {
    cases = λ c declared. rest-fits (FitCase f) (fit-rest case_after case_reply actor_of (case_event_of f)) (calls_case c l.act) (C c) (l, own_version r (asks l.act)) (filter (to_case c) (asked_own (own_then r (asks l.act)) ls)) (ready.cases c declared);
    own = λ c declared. rest-rows (λ e. (e.caller ≡ a) × AnyEntry e) (calls_case c l.act) (C c) (ready.own c declared);
  }

  -- ---- lines one after another
  -- each that asks is told a version
  pub lines-versions : (ls : List Line) (K : KindQueues) (r : OwnTelling) → AllRows (KnownOwn f a) ls → AsksReady K r ls → AllRows HasVersion (asked_own r ls)
  lines-versions [] K r known ready = tt
  lines-versions (l ∷ ls) K r ((known, own), all) ready =
      let k = call_of 0 [] l.act in (
        version-by k (firsts K k) (λ u. if has_kind u (cells_in k) then rest_of (K u) else K u) r (asks-first K r l ls known ready 0 []) (told-firsts K r k ready.told) (λ t is. asks-known f workable a l 0 [] t known is),
        lines-versions ls (kinds_then K l.act) (own_then r (asks l.act)) all (asks-then K r l ls known ready),
      )

  pub record LinesDone (K : KindQueues) (C : CaseQueues) (r : OwnTelling) (ls rest : List Line) : Type 0 where
    pub calls : AreCallsOfLines (roles_of f a) a ls (calls_along K C ls)
    pub asking : AsksReady (kinds_left K ls) (own_left r ls) rest
    pub telling : CasesReady (cases_left C ls) (own_left r ls) rest

  pub lines-done : (ls rest : List Line) (K : KindQueues) (C : CaseQueues) (r : OwnTelling) → AllRows (KnownOwn f a) ls → AsksReady K r (ls ++ rest) → CasesReady C r (ls ++ rest) → LinesDone K C r ls rest
  lines-done [] rest K C r known asking telling = record { calls = refl; asking = asking; telling = telling }
  lines-done (l ∷ ls) rest K C r ((act_known, own), known) asking telling =
      let more = lines-done ls rest (kinds_then K l.act) (cases_then C l.act) (own_then r (asks l.act)) known (asks-then K r l (ls ++ rest) act_known asking) (cases-then C r l (ls ++ rest) telling) in
      record {
        calls = (calls_at K C l.act, calls_along (kinds_then K l.act) (cases_then C l.act) ls, refl, line-calls K C r l (ls ++ rest) act_known own asking telling, more.calls);
        asking = more.asking;
        telling = more.telling;
      }

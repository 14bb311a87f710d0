-- The calls that an actor's lines stand for, as one type and one case see them: the answers to those of its lines that call the type or the case.
use Rattle.std.proofs.Common.{◌≡◌, ◌≢◌, ℕ, zero, suc, ◌<◌, ◌==◌, ◌&&◌, eqb, Bool, true, false, List, [], ◌∷◌, ◌++◌, append_assoc, filter, length, map, take, Option, Some, None, option_map, refl, sym, ap, ◌∙◌, subst, arith, if◌then◌else◌, eq-eqb, ne_eqb, inl, inr, nat_lt, slice_get}
use Rattle.std.proofs.lemmas.Bool.{le-ltb, lt-ltb}
use Rattle.audit_model.proofs.Common.{all_owed, AllRows, and_from, and_told, AreCallsOfLines, AreOf, AreTraces, asked-known, Asked, asked_among, asks, by-append, by-test, call_of, calls_of_case, calls_of_case-append, calls_of_kind, calls_of_kind-append, case_after, case_event_of, case_reply, CaseEntry, CaseId, cells-same, cells_in}
use Rattle.audit_model.proofs.Common.{done_by, each-all, each-kind, entry, Entry, entry_if, Event, File, first_of, Fit, has_case, has_kind, is_case, IsActor, IsKnownAct, is_install, IsPlain, IsWorkable, kind_after, kind_event-same, kind_event_of, kind_reply, KindEntry, KindEvent, KindReply, known-call, Line, plain-call}
use Rattle.audit_model.proofs.Common.{Reply, rest_of, roles_of, slice_get-map, slice_get_cases, some-at, some-other, told_by, told_each, told_in, Trace, VersionModel}
use Rattle.audit_model.proofs.Common.{Call as Made, case_event_in as event_of_case, kind_event_in as event_of_kind}
use Rattle.audit_model.proofs.{Common.actor_of, Callers.other-way, OwnLines.{asked_own, line_actor, own_lines, own_then, own_version, OwnTelling, to_case, to_kind}, Queues.KindQueues}
use Rattle.legal_run.specs.LineCalls.{lines_of}
use Rattle.line_calls.specs.declared.calls.Call.{Call}
use mathlib.Core.Logic.{dite}
use native.Mathlib.Decide.{ℕ_discrete}
use Rattle.case_core.specs.declared.events.Event.TheVariants as event
use Rattle.case_core.specs.declared.replies.Reply.TheVariants as reply
use Rattle.line_calls.specs.declared.calls.Call.TheVariants as call
use Rattle.line_calls.specs.declared.calls.Told.TheVariants as tell
use Rattle.type_core.specs.declared.events.KindEvent.TheVariants as kind_event
use Rattle.type_core.specs.declared.replies.KindReply.TheVariants as kind_answer

abbrev pub FitKind : List KindEntry → List Line → Type 0
FitKind es ls = Fit kind_after kind_reply line_actor kind_event_of es ls

abbrev pub FitCase : File → List CaseEntry → List Asked → Type 0
FitCase f es ls = Fit case_after case_reply actor_of (case_event_of f) es ls

-- one entry, or none
fit-one : {M E R W S L : Type 0} (after : S → E → S) (reply : S → E → R) (by : L → ℕ) (event : L → Option E) (b : Bool) (e : Entry M E R W S) (one es : List (Entry M E R W S)) (l : L) (ls : List L)
    → one ≡ (if b then e ∷ [] else []) → event l ≡ Some e.event → Fit after reply by event es ls → Fit after reply by event (one ++ es) (if b then l ∷ ls else ls)
fit-one after reply by event true e one es l ls has is fit = subst (λ xs. Fit after reply by event (xs ++ es) (l ∷ ls)) (sym has) (is, fit)
fit-one after reply by event false e one es l ls has is fit = subst (λ xs. Fit after reply by event (xs ++ es) ls) (sym has) fit

-- ---- versions that were told
and_told-append : (o : Option VersionModel) (xs ys : List VersionModel) → and_told o xs ++ ys ≡ and_told o (xs ++ ys)
and_told-append None xs ys = refl
and_told-append (Some v) xs ys = refl

pub told-append : (xs ys : List KindEntry) → told_in (xs ++ ys) ≡ told_in xs ++ told_in ys
told-append [] ys = refl
told-append (e ∷ xs) ys = ap (and_told (told_by e.event e.reply)) (told-append xs ys) ∙ sym (and_told-append (told_by e.event e.reply) (told_in xs) (told_in ys))

-- who does not ask is told nothing
not-told : (e : KindEvent) (r : KindReply) → is_install e ≡ true → told_by e r ≡ None
not-told (kind_event.Define schema) r is = refl
not-told (kind_event.Install ops) r is = refl
not-told kind_event.Newest r is = absurd (cc (is))

module _ (a : ℕ) where
  abbrev newest : VersionModel → KindEntry
  newest v = entry a kind_event.Newest (kind_answer.Is v)

  -- what each type has of a call: no entry, or one
  abbrev pub AreAsked : Call → KindQueues → Type 0
  AreAsked (call.Kind t e) one = (r : KindReply) × ((u : ℕ) → one u ≡ (if eqb t u then entry a e r ∷ [] else []))
  AreAsked (call.Case c e) one = (u : ℕ) → one u ≡ []
  AreAsked (call.Newest t w) one = (v : VersionModel) × ((u : ℕ) → one u ≡ (if eqb t u then newest v ∷ [] else []))

  asked-of : (k : Call) (calls : List Made) → AreOf a k calls → AreAsked k (λ u. calls_of_kind u calls)
  asked-of (call.Kind t e) calls (r, is) = (r, λ u. ap (calls_of_kind u) is)
  asked-of (call.Case c e) calls (r, is) = λ u. ap (calls_of_kind u) is
  asked-of (call.Newest t (tell.Create c)) calls (v, r, is) = (v, λ u. ap (calls_of_kind u) is)
  asked-of (call.Newest t (tell.Migrate many)) calls (v, rs, as_many, is) =
      (v, λ u. ap (calls_of_kind u) is ∙ ap (λ (es : List KindEntry). if eqb t u then newest v ∷ es else es) (each-kind a t (event.Migrate v) u 0 rs))

  -- such an entry answers a line with the event of the call
  fit-asked : (t : ℕ) (k : Call) (one : KindQueues) (l : Line) (es : List KindEntry) (ls : List Line) → AreAsked k one → kind_event_of l ≡ event_of_kind k → FitKind es ls → FitKind (one t ++ es) (if has_kind t (cells_in k) then l ∷ ls else ls)
  fit-asked t (call.Kind u e) one l es ls (r, is) same fit = fit-one kind_after kind_reply line_actor kind_event_of (eqb u t) (entry a e r) (one t) es l ls (is t) same fit
  fit-asked t (call.Case c e) one l es ls is same fit = subst (λ xs. FitKind (xs ++ es) ls) (sym (is t)) fit
  fit-asked t (call.Newest u (tell.Create c)) one l es ls (v, is) same fit = fit-one kind_after kind_reply line_actor kind_event_of (eqb u t) (newest v) (one t) es l ls (is t) same fit
  fit-asked t (call.Newest u (tell.Migrate many)) one l es ls (v, is) same fit = fit-one kind_after kind_reply line_actor kind_event_of (eqb u t) (newest v) (one t) es l ls (is t) same fit

  -- ---- what an actor is told by each of so many types is what its entries there tell, and more
  abbrev pub Told : ℕ → OwnTelling → KindQueues → Type 0
  Told types r K = (u : ℕ) → u < types → (more : List VersionModel) × (r u ≡ told_in (K u) ++ more)

  -- first comes the version of the call, then what is told behind it
  pub told-version : (types t : ℕ) (v : VersionModel) (one Q : KindQueues) (r : OwnTelling) → ((u : ℕ) → one u ≡ (if eqb t u then newest v ∷ [] else [])) → Told types r (λ u. one u ++ Q u) → t < types → first_of (r t) ≡ Some v
  told-version types t v one Q r is told low =
      let (more, queue) = told t low in
      ap first_of queue ∙ ap (λ (es : List KindEntry). first_of (told_in (es ++ Q t) ++ more)) (is t ∙ ap (λ (b : Bool). if b then newest v ∷ [] else []) (eq-eqb t t refl))

  told-newest : (types t : ℕ) (v : VersionModel) (one Q : KindQueues) (r : OwnTelling) → ((u : ℕ) → one u ≡ (if eqb t u then newest v ∷ [] else [])) → Told types r (λ u. one u ++ Q u) → Told types (own_then r (Some t)) Q
  told-newest types t v one Q r is told u low =
      let (more, queue) = told u low in
      let here : r u ≡ told_in ((if eqb u t then newest v ∷ [] else []) ++ Q u) ++ more = queue ∙ ap (λ (es : List KindEntry). told_in (es ++ Q u) ++ more) (is u ∙ ap (λ (b : Bool). if b then newest v ∷ [] else []) (other-way t u)) in
      (more, by-test (λ b. r u ≡ told_in ((if b then newest v ∷ [] else []) ++ Q u) ++ more → (if b then rest_of (r u) else r u) ≡ told_in (Q u) ++ more) (eqb u t) (λ own first. ap rest_of first) (λ other first. first) here)

  pub told-then : (types : ℕ) (k : Call) (one Q : KindQueues) (r : OwnTelling) → IsPlain k → AreAsked k one → Told types r (λ u. one u ++ Q u) → Told types (own_then r (asked_among (cells_in k))) Q
  told-then types (call.Kind t e) one Q r plain (x, is) told u low =
      let (more, queue) = told u low in (
        more,
        queue ∙ (ap (λ (es : List KindEntry). told_in (es ++ Q u) ++ more) (is u)
            ∙ by-test (λ b. told_in ((if b then entry a e x ∷ [] else []) ++ Q u) ++ more ≡ told_in (Q u) ++ more) (eqb t u) (λ here. ap (λ o. and_told o (told_in (Q u)) ++ more) (not-told e x plain)) (λ other. refl)),
      )
  told-then types (call.Case c e) one Q r plain is told u low = let (more, queue) = told u low in (more, queue ∙ ap (λ (es : List KindEntry). told_in (es ++ Q u) ++ more) (is u))
  told-then types (call.Newest t (tell.Create c)) one Q r plain (v, is) told u low = told-newest types t v one Q r is told u low
  told-then types (call.Newest t (tell.Migrate many)) one Q r plain (v, is) told u low = told-newest types t v one Q r is told u low

  -- ---- what a case has of a call that told replies to cases of a type
  module _ (c : CaseId) where
    abbrev HasOnce : List CaseEntry → Bool → Event → Type 0
    HasOnce es calls e = (r : Reply) × (es ≡ (if calls then entry a e r ∷ [] else []))

    each-called : (t many : ℕ) (e : Event) (rs : List Reply) → length rs ≡ many → HasOnce (calls_of_case c (told_each a t e 0 rs)) (t == c.type_no && nat_lt c.place many) e
    each-called t many e rs as_many = dite (ℕ_discrete t c.type_no) of_type other
      where
        other : t ≢ c.type_no → HasOnce (calls_of_case c (told_each a t e 0 rs)) (t == c.type_no && nat_lt c.place many) e
        other not = (
          reply.Created,
          ap (calls_of_case c) (each-all a t e 0 rs)
              ∙ (some-other a t e c 0 (map (λ r. Some r) rs) (inl not) ∙ sym (ap (λ b. if b && nat_lt c.place many then entry a e reply.Created ∷ [] else []) (ne_eqb t c.type_no not))),
        )

        -- by the reply at its place
        of_place : (r : Option Reply) → t ≡ c.type_no → slice_get rs c.place ≡ r → calls_of_case c (told_each a t e 0 rs) ≡ entry_if a e (option_map (λ (x : Reply). Some x) r)
        of_place r same at =
            ap (calls_of_case c) (each-all a t e 0 rs)
            ∙ (some-at a t e c 0 c.place (map (λ x. Some x) rs) same (omega arith) ∙ ap (entry_if a e) (slice_get-map (λ x. Some x) rs c.place ∙ ap (option_map (λ (x : Reply). Some x)) at))

        of_type : t ≡ c.type_no → HasOnce (calls_of_case c (told_each a t e 0 rs)) (t == c.type_no && nat_lt c.place many) e
        of_type same = elim (slice_get_cases rs c.place).1 [
          | inl there ↦
              let called = and_from (t == c.type_no) (nat_lt c.place many) (eq-eqb t c.type_no same) (lt-ltb c.place many (let low = there.1 in omega (arith, low, as_many))) in
              (there.0, of_place (Some there.0) same there.2 ∙ sym (ap (λ b. if b then entry a e there.0 ∷ [] else []) called))
          | inr past ↦
              let uncalled = ap (λ b. b && nat_lt c.place many) (eq-eqb t c.type_no same) ∙ le-ltb c.place many (let end = past.0 in omega (arith, end, as_many)) in
              (reply.Created, of_place None same past.1 ∙ sym (ap (λ b. if b then entry a e reply.Created ∷ [] else []) uncalled))
        ]

-- ---- what is known of an actor's own line
abbrev pub KnownOwn : File → ℕ → Line → Type 0
KnownOwn f a l = IsKnownAct (length f.types) f.cases l.act × (l.actor ≡ a)

module _ (f : File) (workable : IsWorkable f) (a : ℕ) where
  -- the type that its call asks is one of the file
  pub asks-known : (l : Line) (b : ℕ) (roles : List ℕ) (t : ℕ) → IsKnownAct (length f.types) f.cases l.act → asked_among (cells_in (call_of b roles l.act)) ≡ Some t → t < length f.types
  asks-known l b roles t known = asked-known (length f.types) f.cases workable.typed (call_of b roles l.act) t (known-call b roles (length f.types) f.cases l.act known)

  -- an entry of a case answers a line with the event of the call, told the version that it asked for
  fit-told : (c : CaseId) (k : Call) (calls : List Made) (Q : KindQueues) (r : OwnTelling) (x : Asked) (es : List CaseEntry) (ls : List Asked) → AreOf a k calls → ((t : ℕ) → asked_among (cells_in k) ≡ Some t → t < length f.types)
      → Told a (length f.types) r (λ u. calls_of_kind u calls ++ Q u) → case_event_of f x ≡ event_of_case (own_version r (asked_among (cells_in k))) k → FitCase f es ls → FitCase f (calls_of_case c calls ++ es) (if has_case c (cells_in k) then x ∷ ls else ls)
  unfolding asked-of
  fit-told c (call.Kind t e) calls Q r x es ls (y, is) known told same fit = subst (λ cs. FitCase f (calls_of_case c cs ++ es) ls) (sym is) fit
  fit-told c (call.Case d e) calls Q r x es ls (y, is) known told same fit = fit-one case_after case_reply actor_of (case_event_of f) (is_case c d) (entry a e y) (calls_of_case c calls) es x ls (ap (calls_of_case c) is) same fit
  fit-told c (call.Newest t (tell.Create d)) calls Q r x es ls (v, y, is) known told same fit =
      let version = told-version a (length f.types) t v (λ u. calls_of_kind u calls) Q r (asked-of a (call.Newest t (tell.Create d)) calls (v, y, is)).1 told (known t refl) in
      fit-one case_after case_reply actor_of (case_event_of f) (is_case c d) (entry a (event.Create v) y) (calls_of_case c calls) es x ls (ap (calls_of_case c) is) (same ∙ ap (option_map event.Create) version) fit
  fit-told c (call.Newest t (tell.Migrate many)) calls Q r x es ls (v, rs, as_many, is) known told same fit =
      let version = told-version a (length f.types) t v (λ u. calls_of_kind u calls) Q r (asked-of a (call.Newest t (tell.Migrate many)) calls (v, rs, as_many, is)).1 told (known t refl) in
      let (y, has) = each-called a c t many (event.Migrate v) rs as_many in
      fit-one case_after case_reply actor_of (case_event_of f) (t == c.type_no && nat_lt c.place many) (entry a (event.Migrate v) y) (calls_of_case c calls) es x ls (ap (calls_of_case c) is ∙ has) (same ∙ ap (option_map event.Migrate) version) fit

  -- ---- an actor's lines, one after another
  pub fit-asked_lines : (t : ℕ) (ls : List Line) (calls : List Made) → AreCallsOfLines (roles_of f a) a ls calls → FitKind (calls_of_kind t calls) (filter (to_kind t) ls)
  fit-asked_lines t [] calls none = subst (λ cs. FitKind (calls_of_kind t cs) []) (sym none) tt
  fit-asked_lines t (l ∷ ls) calls (first, rest, is, here, more) =
      let k = call_of a (roles_of f a) l.act in
      subst (λ es. FitKind es (filter (to_kind t) (l ∷ ls))) (sym (ap (calls_of_kind t) is ∙ calls_of_kind-append t first rest))
      (subst (λ y. FitKind (calls_of_kind t first ++ calls_of_kind t rest) (if has_kind t y then l ∷ filter (to_kind t) ls else filter (to_kind t) ls)) (cells-same a (roles_of f a) l.act)
      (fit-asked a t k (λ u. calls_of_kind u first) l (calls_of_kind t rest) (filter (to_kind t) ls) (asked-of a k first here) (sym (kind_event-same a (roles_of f a) l.act)) (fit-asked_lines t ls rest more)))

  pub fit-told_lines : (c : CaseId) (ls : List Line) (calls : List Made) (r : OwnTelling) → AllRows (KnownOwn f a) ls → AreCallsOfLines (roles_of f a) a ls calls → Told a (length f.types) r (λ u. calls_of_kind u calls)
      → FitCase f (calls_of_case c calls) (filter (to_case c) (asked_own r ls))
  fit-told_lines c [] calls r known none told = subst (λ cs. FitCase f (calls_of_case c cs) []) (sym none) tt
  fit-told_lines c (l ∷ ls) calls r ((known, own), all) (first, rest, is, here, more) told =
      let k = call_of a (roles_of f a) l.act in
      let x : Asked = (l, own_version r (asks l.act)) in
      let cells = cells-same a (roles_of f a) l.act in
      let parts : Told a (length f.types) r (λ u. calls_of_kind u first ++ calls_of_kind u rest) =
      λ u low. let (left, queue) = told u low in (left, queue ∙ ap (λ (es : List KindEntry). told_in es ++ left) (ap (calls_of_kind u) is ∙ calls_of_kind-append u first rest)) in
      let behind : Told a (length f.types) (own_then r (asks l.act)) (λ u. calls_of_kind u rest) =
      subst (λ y. Told a (length f.types) (own_then r (asked_among y)) (λ u. calls_of_kind u rest)) cells
      (told-then a (length f.types) k (λ u. calls_of_kind u first) (λ u. calls_of_kind u rest) r (plain-call a (roles_of f a) l.act) (asked-of a k first here) parts) in
      let fit = fit-told_lines c ls rest (own_then r (asks l.act)) all more behind in
      let later = filter (to_case c) (asked_own (own_then r (asks l.act)) ls) in
      subst (λ es. FitCase f es (filter (to_case c) (x ∷ asked_own (own_then r (asks l.act)) ls))) (sym (ap (calls_of_case c) is ∙ calls_of_case-append c first rest))
      (subst (λ y. case_event_of f x ≡ event_of_case (own_version r (asked_among y)) k → FitCase f (calls_of_case c first ++ calls_of_case c rest) (if has_case c y then x ∷ later else later)) cells
      (λ same. fit-told c k first (λ u. calls_of_kind u rest) r x (calls_of_case c rest) later here (λ t asking. asks-known l a (roles_of f a) t known asking) parts same fit)
      (ap (λ b. event_of_case (own_version r (asks l.act)) (call_of b (roles_of f b) l.act)) own))

-- ---- all phases
calls-append : (roles : List ℕ) (a : ℕ) (ls ms : List Line) (calls more : List Made) → AreCallsOfLines roles a ls calls → AreCallsOfLines roles a ms more → AreCallsOfLines roles a (ls ++ ms) (calls ++ more)
calls-append roles a [] ms calls more none two = subst (λ cs. AreCallsOfLines roles a ms (cs ++ more)) (sym none) two
calls-append roles a (l ∷ ls) ms calls more (first, rest, is, here, one) two = (first, rest ++ more, ap (λ cs. cs ++ more) is ∙ append_assoc first rest more, here, calls-append roles a ls ms rest more one two)

pub done-calls : (f : File) (a : ℕ) → IsActor f a → (phases : List (List Line)) (traces : List Trace) → AreTraces f phases traces → AreCallsOfLines (roles_of f a) a (own_lines a phases) (done_by a traces)
done-calls f a actor [] [] all = refl
done-calls f a actor (lines ∷ phases) (trace ∷ traces) (here, more) =
    subst (λ ls. AreCallsOfLines (roles_of f a) a ls (trace a ++ done_by a traces)) (sym (by-append line_actor a lines (all_owed phases)))
    (calls-append (roles_of f a) a (lines_of a lines) (own_lines a phases) (trace a) (done_by a traces) (here a actor) (done-calls f a actor phases traces more))
done-calls f a actor phases traces all = absurd all

pub take-traces : (f : File) (k : ℕ) (phases : List (List Line)) (traces : List Trace) → AreTraces f phases traces → AreTraces f (take k phases) (take k traces)
take-traces f zero phases traces all = tt
take-traces f (suc k) [] [] all = tt
take-traces f (suc k) (lines ∷ phases) (trace ∷ traces) (here, more) = (here, take-traces f k phases traces more)
take-traces f (suc k) phases traces all = absurd all

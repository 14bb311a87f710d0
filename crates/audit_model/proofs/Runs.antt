-- The journals of types and cases in a run: those that answer what is owed are those of a legal run.
use Rattle.std.proofs.Common.{◌≡◌, ℕ, ◌+◌, ◌==◌, ne_eqb, List, [], ◌∷◌, ◌++◌, filter, length, take, refl, sym, ap, ◌∙◌, subst, arith, if◌then◌else◌, zero, suc, append-nil, drop, Option, Some, slice_get, inl, inr}
use Rattle.std.proofs.lemmas.List.{take-append-drop, take_all}
use Rattle.std.proofs.lemmas.List.Concat.{flat_map-append}
use Rattle.std.proofs.lemmas.Bool.{eqb-true}
use Rattle.audit_model.proofs.Common.{actor_of, all-rows-map, all_owed, AllRows, Answers, answers, AreTraces, Asked, asked_lines, asked_phases, asks, Call, calls_of, calls_of_case, calls_of_kind, calls_of_kind-append, case_after, case_event_of, case_reply, CaseDecl, CaseEntry, CaseId, CaseModel, ClosedCase, ClosedKind, defined, done_by}
use Rattle.audit_model.proofs.Common.{Entry, entry, Event, File, filter-phases, filter-rows, Fit, HasCalls, IsActor, IsKnown, IsLegal, IsLegalCase, IsLegalKind, IsWhole, IsWorkable, journal_of, kind_after, kind_event_of, kind_reply, KindEntry, KindEvent, KindModel, KindReply, left_to_tell, length-map, Line, lines_by, not_created, not_defined}
use Rattle.audit_model.proofs.Common.{owed_case, owed_kind, program, recursion_from_All, Reply, rows-owed, slice_get_cases, state_after, take-known, take-map, Telling, telling, there-as, told_at, told_in, Trace, TypeDecl}
use Rattle.audit_model.proofs.{Callers.take-front, Calls.{done-calls, fit-asked_lines, fit-told_lines, FitCase, FitKind, KnownOwn, take-traces, Told, told-append}, OwnLines.{line_actor, own-phases, own-such, own_lines, to_case, to_kind}}
use Rattle.case_core.specs.{Instances.CountedCase, declared.views.View.View}
use Rattle.legal_run.specs.{Legal.IsByPhases, LineCalls.lines_of}
use Rattle.turn_cell.proofs.Histories.{calls_of-append}
use mathlib.Core.List.{IsPrefix}
use Rattle.type_core.specs.declared.events.KindEvent.TheVariants as event
use Rattle.type_core.specs.declared.replies.KindReply.TheVariants as reply

-- ---- who owes is an actor, and what is known of an actor's lines
pub known-actors : (f : File) → IsWorkable f → AllRows (AllRows (λ l. IsActor f l.actor)) f.phases
known-actors f workable =
    all-rows-map (AllRows (IsKnown (length f.types) (length f.actors) f.cases)) (AllRows (λ l. IsActor f l.actor))
    (λ lines all. all-rows-map (IsKnown (length f.types) (length f.actors) f.cases) (λ l. IsActor f l.actor) (λ l k. (k.from_1, k.actor)) lines all) f.phases workable.known

pub known-own : (f : File) (a : ℕ) (lines : List Line) → AllRows (IsKnown (length f.types) (length f.actors) f.cases) lines → AllRows (KnownOwn f a) (lines_of a lines)
known-own f a lines known = filter-rows (IsKnown (length f.types) (length f.actors) f.cases) (KnownOwn f a) (λ l. l.actor == a) (λ l k own. (k.act, eqb-true l.actor a own)) lines known

-- ---- lines with versions
rows-asked : (P : Line → Type 0) (q : Telling) (ls : List Line) → AllRows P ls → AllRows (λ (x : Asked). P x.0) (asked_lines q ls)
rows-asked P q [] all = tt
rows-asked P q (l ∷ ls) (one, all) = (one, rows-asked P (told_at q l.actor (asks l.act)) ls all)

pub phases-asked : (P : Line → Type 0) (q : Telling) (phases : List (List Line)) → AllRows (AllRows P) phases → AllRows (AllRows (λ (x : Asked). P x.0)) (asked_phases q phases)
phases-asked P q [] all = tt
phases-asked P q (lines ∷ phases) (one, all) = (rows-asked P q lines one, phases-asked P (left_to_tell q lines) phases all)

length-asked : (q : Telling) (phases : List (List Line)) → length (asked_phases q phases) ≡ length phases
length-asked q [] = refl
length-asked q (lines ∷ phases) = ap suc (length-asked (left_to_tell q lines) phases)

take-asked : (n : ℕ) (q : Telling) (phases : List (List Line)) → take n (asked_phases q phases) ≡ asked_phases q (take n phases)
take-asked zero q phases = refl
take-asked (suc n) q [] = refl
take-asked (suc n) q (lines ∷ phases) = ap (λ ps. asked_lines q lines ∷ ps) (take-asked n (left_to_tell q lines) phases)

-- ---- beginnings of one list that are equally long
same-beginnings : {X : Type 0} (xs ys left more zs : List X) → xs ++ left ≡ zs → ys ++ more ≡ zs → length xs ≡ length ys → xs ≡ ys
same-beginnings {X} xs ys left more zs one two same =
    sym (take-front xs left) ∙ (ap (take (length xs)) (one ∙ sym two) ∙ (ap (λ n. take n (ys ++ more)) same ∙ take-front ys more))

module _ {M E R W S L : Type 0} (after : S → E → S) (reply : S → E → R) (by : L → ℕ) (event : L → Option E) where
  fit-length : (es : List (Entry M E R W S)) (ls : List L) → Fit after reply by event es ls → length es ≡ length ls
  fit-length [] [] fit = refl
  fit-length (e ∷ es) (l ∷ ls) fit = ap suc (fit-length es ls fit.1)
  fit-length es ls fit = absurd fit

-- ---- a machine, as calls go to it and as the script owes them
pub record Served (M E R W S L : Type 0) : Type 0 where
  pub after : S → E → S
  pub reply : S → E → R
  pub actor : L → ℕ
  pub event : L → Option E
  pub on : List Call → List (Entry M E R W S)
  pub owed : List (List L)

module _ {M E R W S L : Type 0} (f : File) (traces : List Trace) (m : Served M E R W S L) where
  abbrev Fits : ℕ → List (Entry M E R W S) → List (List L) → Type 0
  Fits a es owed = Fit m.after m.reply m.actor m.event es (lines_by m.actor a (all_owed owed))

  -- actors owe it something in each phase, and what they call of it in so many phases fits what they owe there
  pub record IsServed : Type 0 where
    pub actors : AllRows (AllRows (λ l. IsActor f (m.actor l))) m.owed
    pub many : length m.owed ≡ length f.phases
    pub fit : (n a : ℕ) → IsActor f a → Fits a (m.on (done_by a (take n traces))) (take n m.owed)

  module _ (h : IsServed) where
    abbrev every : ℕ
    every = length f.phases + length traces

    every-trace : take every traces ≡ traces
    every-trace = take_all every traces (omega arith)

    every-phase : take every m.owed ≡ m.owed
    every-phase = let many = h.many in take_all every m.owed (omega (arith, many))

    -- a legal journal answers what is owed
    pub served-answers : (s : S) (es : List (Entry M E R W S)) → IsLegal m.after m.reply s es → AllRows (λ e. IsActor f e.caller) es → IsByPhases f m.on traces es → Answers m.after m.reply m.actor m.event s m.owed es (state_after m.after s es)
    served-answers s es legal callers calls =
        answers m.after m.reply m.actor m.event (IsActor f) es s m.owed legal callers h.actors
        (λ a actor. subst (Fits a (calls_of a es)) every-phase (subst (λ cs. Fits a cs (take every m.owed)) (ap (λ ts. m.on (done_by a ts)) every-trace ∙ sym (calls.whole a actor)) (h.fit every a actor)))
        (λ n low.
        let (start, prefix, has) = calls.behind n (let many = h.many in omega (arith, many, low)) in
        (start, prefix, λ a actor. subst (λ cs. Fits a cs (take n m.owed)) (sym (has a actor)) (h.fit n a actor)))

    -- and one that answers it holds the calls of each actor phase by phase, where they begin what it has of the actor
    pub served-phases : (s : S) (es : List (Entry M E R W S)) (t : S) → IsWhole m.after m.reply m.actor m.event (IsActor f) s m.owed es t
        → ((n a : ℕ) → IsActor f a → (left : List (Entry M E R W S)) × (m.on (done_by a (take n traces)) ++ left ≡ calls_of a es)) → IsByPhases f m.on traces es
    served-phases s es t whole begun = record {
      whole = subst (λ ts. HasCalls f m.on ts es) every-trace (has every es [] (append-nil es) (λ a actor. subst (Fits a (calls_of a es)) (sym every-phase) (whole.whole a actor)));
      behind = λ n low. let (start, prefix, fits) = whole.begins n (let many = h.many in omega (arith, many, low)) in (start, prefix, has n start prefix.0 prefix.1 fits);
    }
      where
        has : (n : ℕ) (start rest : List (Entry M E R W S)) → start ++ rest ≡ es → ((a : ℕ) → IsActor f a → Fits a (calls_of a start) (take n m.owed)) → HasCalls f m.on (take n traces) start
        has n start rest same fit a actor =
            let (left, made) = begun n a actor in
            let long = λ (xs : List (Entry M E R W S)) (fits : Fits a xs (take n m.owed)). fit-length m.after m.reply m.actor m.event xs (lines_by m.actor a (all_owed (take n m.owed))) fits in
            same-beginnings (calls_of a start) (m.on (done_by a (take n traces))) (calls_of a rest) left (calls_of a es) (sym (calls_of-append a start rest) ∙ ap (calls_of a) same) made
            (long (calls_of a start) (fit a actor) ∙ sym (long (m.on (done_by a (take n traces))) (h.fit n a actor)))

-- ---- an entry of the program is no actor's
module _ {M E R W S : Type 0} (f : File) (e : Entry M E R W S) (none : e.caller ≡ 0) where
  pub not-own : (es : List (Entry M E R W S)) (a : ℕ) → IsActor f a → calls_of a (e ∷ es) ≡ calls_of a es
  not-own es a actor = ap (λ test. if test then e ∷ calls_of a es else calls_of a es) (ne_eqb e.caller a (λ same. omega (arith, none, same, actor.0)))

  pub in-front : (on : List Call → List (Entry M E R W S)) (traces : List Trace) (es : List (Entry M E R W S)) → IsByPhases f on traces es → IsByPhases f on traces (e ∷ es)
  in-front on traces es h = record {
    whole = λ a actor. not-own es a actor ∙ h.whole a actor;
    behind = λ n low. let (start, prefix, has) = h.behind n low in (e ∷ start, (prefix.0, ap (λ xs. e ∷ xs) prefix.1), λ a actor. not-own start a actor ∙ has a actor);
  }

  -- a beginning, without that entry
  without-first : (es start : List (Entry M E R W S)) → IsPrefix start (e ∷ es) → (rest : List (Entry M E R W S)) × IsPrefix rest es × ((a : ℕ) → IsActor f a → calls_of a rest ≡ calls_of a start)
  without-first es [] prefix = ([], (es, refl), λ a actor. refl)
  without-first es (x ∷ rest) (zs, same) =
      let is : e ≡ x = cc (same) in
      let more : rest ++ zs ≡ es = cc (same) in
      (rest, (zs, more), λ a actor. sym (not-own rest a actor) ∙ ap (λ (y : Entry M E R W S). calls_of a (y ∷ rest)) is)

  behind-first : (on : List Call → List (Entry M E R W S)) (traces : List Trace) (es : List (Entry M E R W S)) → IsByPhases f on traces (e ∷ es) → IsByPhases f on traces es
  behind-first on traces es h = record {
    whole = λ a actor. sym (not-own es a actor) ∙ h.whole a actor;
    behind = λ n low.
        let (start, prefix, has) = h.behind n low in
        let (rest, more, same) = without-first es start prefix in
        (rest, more, λ a actor. same a actor ∙ has a actor);
  }

-- ---- a type, behind its definition
abbrev pub served_kind : File → ℕ → Served KindModel KindEvent KindReply ℕ KindModel Line
served_kind f t = record { after = kind_after; reply = kind_reply; actor = line_actor; event = kind_event_of; on = calls_of_kind t; owed = owed_kind f t }

pub owed-actors : (f : File) (t : ℕ) → IsWorkable f → AllRows (AllRows (λ l. IsActor f (line_actor l))) (owed_kind f t)
owed-actors f t workable = filter-phases (λ (l : Line). IsActor f l.actor) (λ (l : Line). IsActor f l.actor) (to_kind t) (λ l actor calls. actor) f.phases (known-actors f workable)

module _ (f : File) (workable : IsWorkable f) (traces : List Trace) (of_lines : AreTraces f f.phases traces) where
  pub kind-served : (t : ℕ) → IsServed f traces (served_kind f t)
  kind-served t = record {
    actors = owed-actors f t workable;
    many = length-map f.phases (λ (lines : List Line). filter (to_kind t) lines);
    fit = λ n a actor.
        let calls = done_by a (take n traces) in
        subst (λ ls. FitKind (calls_of_kind t calls) (lines_by line_actor a (all_owed ls))) (sym (take-map (λ (lines : List Line). filter (to_kind t) lines) n f.phases))
        (subst (FitKind (calls_of_kind t calls)) (sym (own-such a line_actor (to_kind t) (take n f.phases)))
        (fit-asked_lines f workable a t (own_lines a (take n f.phases)) calls (done-calls f a actor (take n f.phases) (take n traces) (take-traces f n f.phases traces of_lines))));
  }

  module _ (t : ℕ) (d : TypeDecl) (k : ClosedKind) (legal : IsLegalKind f traces t d k) where
    abbrev definition : KindEntry
    definition = entry program (event.Define d.schema) reply.Defined

    defined-legal : IsLegal kind_after kind_reply (not_defined t) (definition ∷ legal.others)
    defined-legal = subst (IsLegal kind_after kind_reply (not_defined t)) legal.defined legal.legal

    pub kind-answers : Answers kind_after kind_reply line_actor kind_event_of (defined t d).machine (owed_kind f t) legal.others k.machine
    kind-answers =
        let found = served-answers f traces (served_kind f t) (kind-served t) (defined t d).machine legal.others defined-legal.1 (recursion_from_All (λ (e : KindEntry). IsActor f e.caller) legal.others legal.callers)
        (behind-first f definition refl (calls_of_kind t) traces legal.others (subst (IsByPhases f (calls_of_kind t) traces) legal.defined legal.calls)) in
        let end : k.machine ≡ state_after kind_after (defined t d).machine legal.others = legal.machine ∙ ap (state_after kind_after (not_defined t)) legal.defined in
        subst (Answers kind_after kind_reply line_actor kind_event_of (defined t d).machine (owed_kind f t) legal.others) (sym end) found

    -- and its journal
    pub kind-journal : k.journal ≡ (defined t d).journal ++ legal.others
    kind-journal = legal.defined ∙ ap (λ x. entry program (event.Define d.schema) x ∷ legal.others) defined-legal.0

-- ---- a case, where its types told what they did
abbrev pub served_case : File → CaseId → List (List Asked) → Served CountedCase Event Reply View CaseModel Asked
served_case f c phases = record { after = case_after; reply = case_reply; actor = actor_of; event = case_event_of f; on = calls_of_case c; owed = owed_case c phases }

pub case-actors : (f : File) → IsWorkable f → (q : Telling) (c : CaseId) → AllRows (AllRows (λ l. IsActor f (actor_of l))) (owed_case c (asked_phases q f.phases))
case-actors f workable q c =
    filter-phases (λ (l : Asked). IsActor f (actor_of l)) (λ (l : Asked). IsActor f (actor_of l)) (to_case c) (λ l actor calls. actor) (asked_phases q f.phases) (phases-asked (λ l. IsActor f l.actor) q f.phases (known-actors f workable))

module _ (f : File) (workable : IsWorkable f) (traces : List Trace) (of_lines : AreTraces f f.phases traces) (kinds : List ClosedKind) (many : length kinds ≡ length f.types)
    (legal_kinds : (t : ℕ) (d : TypeDecl) (k : ClosedKind) → slice_get f.types t ≡ Some d → slice_get kinds t ≡ Some k → IsLegalKind f traces t d k) where
  -- each actor was told what its calls tell, and more behind some phases
  told-front : (n a : ℕ) → IsActor f a → Told a (length f.types) (telling kinds a) (λ t. calls_of_kind t (done_by a (take n traces)))
  told-front n a actor t low = elim (slice_get_cases f.types t).1 [
    | inl there ↦
        let (k, at_k) = there-as f.types kinds t there.0 many there.2 in
        let front = calls_of_kind t (done_by a (take n traces)) in
        let rest = calls_of_kind t (done_by a (drop n traces)) in
        let parts : done_by a traces ≡ done_by a (take n traces) ++ done_by a (drop n traces) = sym (ap (done_by a) (take-append-drop n traces)) ∙ flat_map-append (λ (trace : Trace). trace a) (take n traces) (drop n traces) in
        let calls : calls_of a k.journal ≡ front ++ rest =
        (legal_kinds t there.0 k there.2 at_k).calls.whole a actor ∙ (ap (calls_of_kind t) parts ∙ calls_of_kind-append t (done_by a (take n traces)) (done_by a (drop n traces))) in
        (told_in rest, ap (λ o. told_in (calls_of a (journal_of o))) at_k ∙ (ap told_in calls ∙ told-append front rest))
    | inr past ↦ absurd (omega (arith, past.0, low))
  ]

  abbrev pub the_phases : List (List Asked)
  the_phases = asked_phases (telling kinds) f.phases

  pub case-served : (c : CaseId) → IsServed f traces (served_case f c the_phases)
  case-served c = record {
    actors = case-actors f workable (telling kinds) c;
    many = length-map the_phases (λ (lines : List Asked). filter (to_case c) lines) ∙ length-asked (telling kinds) f.phases;
    fit = λ n a actor.
        let calls = done_by a (take n traces) in
        let phases = take n f.phases in
        let own = own-such a actor_of (to_case c) (asked_phases (telling kinds) phases) ∙ ap (filter (to_case c)) (own-phases a phases (telling kinds)) in
        let front : owed_case c (asked_phases (telling kinds) phases) ≡ take n (owed_case c the_phases) = ap (owed_case c) (sym (take-asked n (telling kinds) f.phases)) ∙ sym (take-map (λ (lines : List Asked). filter (to_case c) lines) n the_phases) in
        let known = rows-owed (IsKnown (length f.types) (length f.actors) f.cases) phases (take-known (AllRows (IsKnown (length f.types) (length f.actors) f.cases)) n f.phases workable.known) in
        subst (λ ls. FitCase f (calls_of_case c calls) (lines_by actor_of a (all_owed ls))) front
        (subst (FitCase f (calls_of_case c calls)) (sym own)
        (fit-told_lines f workable a c (own_lines a phases) calls (telling kinds a) (known-own f a (all_owed phases) known) (done-calls f a actor phases (take n traces) (take-traces f n f.phases traces of_lines)) (told-front n a actor)));
  }

  module _ (d : CaseDecl) (c : ClosedCase) (legal : IsLegalCase f traces d c) where
    pub case-callers : AllRows (λ (e : CaseEntry). IsActor f e.caller) c.journal
    case-callers = recursion_from_All (λ (e : CaseEntry). IsActor f e.caller) c.journal legal.callers

    pub case-answers : Answers case_after case_reply actor_of (case_event_of f) (not_created d.id.type_no) (owed_case d.id the_phases) c.journal c.machine
    case-answers =
        subst (Answers case_after case_reply actor_of (case_event_of f) (not_created d.id.type_no) (owed_case d.id the_phases) c.journal) (sym legal.machine)
        (served-answers f traces (served_case f d.id the_phases) (case-served d.id) (not_created d.id.type_no) c.journal legal.legal case-callers legal.calls)

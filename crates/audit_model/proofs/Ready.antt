-- The types that are read have told each actor what its lines ask for.
use Rattle.std.proofs.Common.{◌≡◌, ℕ, ◌<◌, ◌==◌, List, [], ◌∷◌, append-nil, filter, length, Some, slice_get, inl, inr, refl, sym, ap, ◌∙◌, subst, arith}
use Rattle.std.proofs.lemmas.Bool.{eqb-true}
use Rattle.audit_model.proofs.Common.{actor_of, all-by, all_owed, AllRows, answers-whole, Asked, asked_phases, by-event, Bytes, calls_of, ClosedKind, defined, Entry, entry, File, if-either, IsActor, IsKnown, IsLegal, IsSound, IsWhole, IsWorkable, journal_of, kind_after, kind_event_of, kind_reply, KindEntry, KindModel}
use Rattle.audit_model.proofs.Common.{newest-told, newest_of, not_defined, owed-rows, owed_kind, program, row-at, rows-owed, slice_get_cases, sound-defined, telling, there-as, TypeDecl}
use Rattle.audit_model.proofs.{Calls.FitKind, LineQueues.{AsksReady, lines-versions, TellsVersion}, OwnLines.{HasVersion, line_actor, own-phases, own-such, own_lines, to_kind}, Queues.KindQueues, Runs.{known-actors, known-own, not-own, owed-actors, phases-asked}, TakenParts.KindTaken}
use Rattle.type_core.specs.declared.events.KindEvent.TheVariants as kind_event

-- ---- the entries of an actor
pub calls-rows : {M E R W S : Type 0} (P : Entry M E R W S → Type 0) (a : ℕ) (es : List (Entry M E R W S)) → AllRows P es → AllRows (λ (e : Entry M E R W S). (e.caller ≡ a) × P e) (calls_of a es)
calls-rows P a [] all = tt
calls-rows P a (e ∷ es) (one, all) =
    if-either (AllRows (λ x. (x.caller ≡ a) × P x)) (e.caller == a) (e ∷ calls_of a es) (calls_of a es) (λ own. ((eqb-true e.caller a own, one), calls-rows P a es all)) (λ other. calls-rows P a es all)

-- a type with a version tells one to each who asks
tells-all : (s : KindModel) (es : List KindEntry) → IsLegal kind_after kind_reply s es → 0 < length s.versions → AllRows TellsVersion es
tells-all s [] legal some = tt
tells-all s (e ∷ es) (is, legal) some =
    let kept = by-event s (newest_of s.versions) e.event in
    let (v, told) = newest-told s some in
    (λ newest. (v, is ∙ (ap (kind_reply s) newest ∙ told)), tells-all (kind_after s e.event) es legal (omega (arith, some, kept)))

module _ (f : File) (workable : IsWorkable f) where
  -- a type that is read, whole
  abbrev WholeKind : ℕ → TypeDecl → List KindEntry → KindModel → Type 0
  WholeKind t d others machine = IsWhole kind_after kind_reply line_actor kind_event_of (IsActor f) (defined t d).machine (owed_kind f t) others machine

  pub whole-kind : (t : ℕ) (d : TypeDecl) (part : List Bytes) (k : ClosedKind) (h : KindTaken f t d part k) → WholeKind t d h.others k.machine
  whole-kind t d part k h = answers-whole kind_after kind_reply line_actor kind_event_of (IsActor f) h.others (defined t d).machine (owed_kind f t) k.machine (owed-actors f t workable) h.answers

  pub defined-there : (t : ℕ) (d : TypeDecl) → IsSound d → 0 < length (defined t d).machine.versions
  defined-there t d sound = subst (λ (m : KindModel). 0 < length m.versions) (sym (ap (λ step. step.0) (sound-defined t d.schema sound))) (omega arith)

  module _ (kinds : List ClosedKind) (many : length kinds ≡ length f.types)
      (each : (t : ℕ) (d : TypeDecl) (k : ClosedKind) → slice_get f.types t ≡ Some d → slice_get kinds t ≡ Some k → (part : List Bytes) × KindTaken f t d part k) where
    -- what there is of an actor in the types: not the program's entry
    abbrev pub kind_queues : ℕ → KindQueues
    kind_queues a t = calls_of a (journal_of (slice_get kinds t))

    kind-ready : (a : ℕ) → IsActor f a → (t : ℕ) → t < length f.types → FitKind (kind_queues a t) (filter (to_kind t) (own_lines a f.phases)) × AllRows (λ e. (e.caller ≡ a) × TellsVersion e) (kind_queues a t)
    kind-ready a actor t low = elim (slice_get_cases f.types t).1 [
      | inl there ↦
          let d = there.0 in
          let (k, at_k) = there-as f.types kinds t d many there.2 in
          let (part, h) = each t d k there.2 at_k in
          let whole = whole-kind t d part k h in
          let definition : KindEntry = entry program (kind_event.Define d.schema) (kind_reply (not_defined t) (kind_event.Define d.schema)) in
          let queue : kind_queues a t ≡ calls_of a h.others = ap (λ o. calls_of a (journal_of o)) at_k ∙ (ap (calls_of a) h.journal ∙ not-own f definition refl h.others a actor) in
          subst (λ es. FitKind es (filter (to_kind t) (own_lines a f.phases)) × AllRows (λ e. (e.caller ≡ a) × TellsVersion e) es) (sym queue) (
            subst (FitKind (calls_of a h.others)) (own-such a line_actor (to_kind t) f.phases) (whole.whole a actor),
            calls-rows TellsVersion a h.others (tells-all (defined t d).machine h.others whole.legal (defined-there t d (row-at IsSound f.types t d workable.sound there.2))),
          )
      | inr past ↦ absurd (omega (arith, past.0, low))
    ]

    pub kinds-ready : (a : ℕ) → IsActor f a → AsksReady f workable a (kind_queues a) (telling kinds a) (own_lines a f.phases)
    kinds-ready a actor = record { kinds = λ t low. (kind-ready a actor t low).0; own = λ t low. (kind-ready a actor t low).1; told = λ t low. ([], sym (append-nil (telling kinds a t))) }

  -- each line that asks is told a version
  pub all-have : (kinds : List ClosedKind) (many : length kinds ≡ length f.types)
      → ((t : ℕ) (d : TypeDecl) (k : ClosedKind) → slice_get f.types t ≡ Some d → slice_get kinds t ≡ Some k → (part : List Bytes) × KindTaken f t d part k) → AllRows (AllRows HasVersion) (asked_phases (telling kinds) f.phases)
  all-have kinds many each =
      let phases = asked_phases (telling kinds) f.phases in
      let actors = rows-owed (λ (x : Asked). IsActor f x.0.actor) phases (phases-asked (λ l. IsActor f l.actor) (telling kinds) f.phases (known-actors f workable)) in
      let known = rows-owed (IsKnown (length f.types) (length f.actors) f.cases) f.phases workable.known in
      owed-rows HasVersion phases
      (all-by actor_of (IsActor f) HasVersion (all_owed phases) actors
      (λ a actor. subst (AllRows HasVersion) (sym (own-phases a f.phases (telling kinds)))
      (lines-versions f workable a (own_lines a f.phases) (kind_queues kinds many each a) (telling kinds a) (known-own f a (all_owed f.phases) known) (kinds-ready kinds many each a actor))))

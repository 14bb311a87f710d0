-- The reader of a report goes on wherever it stands.
use Rattle.std.proofs.Common.{◌≡◌, ℕ, true, List, [], ◌++◌, length, Option, Some, slice_get, refl, ap, sym, subst, option_map}
use Rattle.audit_model.proofs.Common.{AllRows, and_then, Asked, asked_among, asked_phases, both-phases, Bytes, call_of, call_writes, caller_in, calls_case, calls_kind, case_after, case_event_of, case_head, case_journal, case_made}
use Rattle.audit_model.proofs.Common.{case_reader, case_reply, case_shown, CaseDecl, CaseId, CaseModel, cases_behind, cases_reader, cells-same, cells_in, ClosedCase, ClosedKind, defined, defined_line, end_text, filter-phases, ended, entry}
use Rattle.audit_model.proofs.Common.{Event, event_text, expected-live, File, first_line, given, has_case, has_kind, how_many, IsActor, IsAuditable, IsGood, IsLive, IsOneLine, IsOneLineWrite, IsWorkable, journal, journal-live, Line}
use Rattle.audit_model.proofs.Common.{mapped-live, not_created, owed_case, owed_kind, reply_text, report_reader, roles_of, Run, summary, telling, then-live, type_head, TypeDecl, VersionModel, writes-same, WritesOneLine, WritesValues}
use Rattle.audit_model.proofs.{Common.{KeptCase, kind_after, kind_behind, kind_event_of, kind_event_text, kind_journal, kind_reader, kind_reply, kind_reply_text, kind_shown, KindEvent, KindModel, kinds_reader}, Common.actor_of}
use Rattle.audit_model.proofs.{OwnLines.{HasVersion, line_actor}, Runs.{phases-asked, known-actors}, Callers.{tells-case, tells-kind}, KeptValues.{case-kept, case-shows}, OneLine.ended-one, OneLineTexts.{event-one, kind_event-one, kind_reply-one, line-one}}
use Rattle.audit_model.proofs.{OneLineTexts.reply-one, Ready.all-have, Rows.row-live, TakenParts.{KindTaken, kind-at, types-of}}
use Rattle.audit_model.proofs.Common.{case_event_in as event_of_case, kind_event_in as event_of_kind}
use Rattle.line_calls.specs.declared.calls.Call.{Call}
use Rattle.case_core.specs.declared.events.Event.TheVariants as event
use Rattle.line_calls.specs.declared.calls.Call.TheVariants as call
use Rattle.line_calls.specs.declared.calls.Told.TheVariants as tell
use Rattle.type_core.specs.declared.events.KindEvent.TheVariants as kind_event

-- given lines
given-live : {A : Type 0} (text : Bytes) (a : A) → IsLive (given text a)
given-live text a = expected-live (ended text) a (ended-one text)

module _ (f : File) (workable : IsWorkable f) (auditable : IsAuditable f) where
  -- ---- types
  abbrev pub AnyKind : KindModel → Type 0
  AnyKind s = Unit {0}

  abbrev pub AnyEvent : KindEvent → Type 0
  AnyEvent e = Unit {0}

  pub kind-line-one : (k a : ℕ) (s : KindModel) (e : KindEvent) → IsActor f a → AnyKind s → AnyEvent e → IsOneLine (kind_shown f k (entry a e (kind_reply s e)))
  kind-line-one k a s e actor any some = line-one f auditable k a (kind_event_text e) (kind_reply_text f (kind_reply s e)) (kind_event-one f auditable e) (kind_reply-one f auditable (kind_reply s e))

  abbrev GoodForKind : Line → Type 0
  GoodForKind l = IsGood kind_after kind_reply line_actor kind_event_of (caller_in f) (kind_shown f) (IsActor f) AnyKind AnyEvent (λ s e kept good. tt) kind-line-one (tells-kind f auditable) l

  kind-event : (t : ℕ) (k : Call) → has_kind t (cells_in k) ≡ true → (e : KindEvent) × (event_of_kind k ≡ Some e)
  kind-event t (call.Kind u e) calls = (e, refl)
  kind-event t (call.Case c e) calls = absurd (cc (calls))
  kind-event t (call.Newest u w) calls = (kind_event.Newest, refl)

  good-kind : (t : ℕ) (l : Line) → IsActor f l.actor → calls_kind t l.act ≡ true → GoodForKind l
  good-kind t l actor calls = let (e, is) = kind-event t (call_of 0 [] l.act) calls in record { actor = actor; event = e; is = is; good = tt }

  kind_journal-live : (t : ℕ) (k : ClosedKind) → IsLive (kind_journal f t k)
  kind_journal-live t k =
      mapped-live (kind_behind k) (journal kind_after kind_reply line_actor kind_event_of (caller_in f) (kind_shown f) (how_many (owed_kind f t)) 2 k.machine (owed_kind f t))
      (journal-live kind_after kind_reply line_actor kind_event_of (caller_in f) (kind_shown f) (IsActor f) AnyKind AnyEvent (λ s e kept good. tt) kind-line-one (tells-kind f auditable) (how_many (owed_kind f t)) 2 k.machine (owed_kind f t) tt
      (filter-phases (λ (l : Line). IsActor f l.actor) GoodForKind (λ l. calls_kind t l.act) (good-kind t) f.phases (known-actors f workable)))

  kind-live : (t : ℕ) (d : TypeDecl) → IsLive (kind_reader f t d)
  kind-live t d = then-live (kind_journal f t) (given (type_head d ++ defined_line f (defined t d)) (defined t d)) (given-live (type_head d ++ defined_line f (defined t d)) (defined t d)) (λ ls k is. kind_journal-live t k)

  -- ---- cases
  pub case-line-one : (k a : ℕ) (s : CaseModel) (e : Event) → IsActor f a → KeptCase s → WritesValues e → IsOneLine (case_shown f k (entry a e (case_reply s e)))
  case-line-one k a s e actor kept good = line-one f auditable k a (event_text f e) (reply_text f (case_reply s e)) (event-one f auditable e good) (reply-one f auditable (case_reply s e) (case-shows s e kept good))

  abbrev GoodForCase : Asked → Type 0
  GoodForCase l = IsGood case_after case_reply actor_of (case_event_of f) (caller_in f) (case_shown f) (IsActor f) KeptCase WritesValues case-kept case-line-one (tells-case f auditable) l

  -- a line that calls a case is an event, where it was told the version that it asks for
  record HasEvent (o : Option Event) : Type 0 where
    event : Event
    is : o ≡ Some event
    good : WritesValues event

  case-event : (ver : Option VersionModel) (c : CaseId) (k : Call) → ((t : ℕ) → asked_among (cells_in k) ≡ Some t → (v : VersionModel) × (ver ≡ Some v)) → AllRows IsOneLineWrite (call_writes k) → has_case c (cells_in k) ≡ true → HasEvent (event_of_case ver k)
  case-event ver c (call.Kind t e) told one calls = absurd (cc (calls))
  case-event ver c (call.Case d e) told one calls = record { event = e; is = refl; good = one }
  case-event ver c (call.Newest t (tell.Create d)) told one calls = let (v, is) = told t refl in record { event = event.Create v; is = ap (option_map event.Create) is; good = tt }
  case-event ver c (call.Newest t (tell.Migrate many)) told one calls = let (v, is) = told t refl in record { event = event.Migrate v; is = ap (option_map event.Migrate) is; good = tt }

  -- what is known of a line that is asked
  abbrev KnownAsked : Asked → Type 0
  KnownAsked x = (IsActor f x.0.actor × WritesOneLine x.0) × HasVersion x

  good-case : (c : CaseId) (x : Asked) → KnownAsked x → calls_case c x.0.act ≡ true → GoodForCase x
  good-case c x ((actor, one), told) calls =
      let a = x.0.actor in
      let k = call_of a (roles_of f a) x.0.act in
      let cells = sym (cells-same a (roles_of f a) x.0.act) in
      let h = case-event x.1 c k (subst (λ y. (t : ℕ) → asked_among y ≡ Some t → (v : VersionModel) × (x.1 ≡ Some v)) cells told)
      (subst (AllRows IsOneLineWrite) (sym (writes-same a (roles_of f a) x.0.act)) one) (subst (λ y. has_case c y ≡ true) cells calls) in
      record { actor = actor; event = h.event; is = h.is; good = h.good }

  module _ (kinds : List ClosedKind) (many : length kinds ≡ length f.types)
      (each : (t : ℕ) (d : TypeDecl) (k : ClosedKind) → slice_get f.types t ≡ Some d → slice_get kinds t ≡ Some k → (part : List Bytes) × KindTaken f t d part k) where
    abbrev phases : List (List Asked)
    phases = asked_phases (telling kinds) f.phases

    known-asked : AllRows (AllRows KnownAsked) phases
    known-asked =
        let both = both-phases (λ (l : Line). IsActor f l.actor) WritesOneLine (λ (l : Line). IsActor f l.actor × WritesOneLine l) (λ l x y. (x, y)) f.phases (known-actors f workable) auditable.writes in
        both-phases (λ (x : Asked). IsActor f x.0.actor × WritesOneLine x.0) HasVersion KnownAsked (λ x y z. (y, z)) phases
        (phases-asked (λ (l : Line). IsActor f l.actor × WritesOneLine l) (telling kinds) f.phases both) (all-have f workable kinds many each)

    case_journal-live : (d : CaseDecl) → IsLive (case_journal f phases d)
    case_journal-live d =
        mapped-live case_made (journal case_after case_reply actor_of (case_event_of f) (caller_in f) (case_shown f) (how_many (owed_case d.id phases)) 1 (not_created d.id.type_no) (owed_case d.id phases))
        (journal-live case_after case_reply actor_of (case_event_of f) (caller_in f) (case_shown f) (IsActor f) KeptCase WritesValues case-kept case-line-one (tells-case f auditable) (how_many (owed_case d.id phases)) 1 (not_created d.id.type_no) (owed_case d.id phases) tt
        (filter-phases KnownAsked GoodForCase (λ (x : Asked). calls_case d.id x.0.act) (good-case d.id) phases known-asked))

    case-live : (d : CaseDecl) → IsLive (case_reader f phases d)
    case-live d =
        then-live (λ (c : ClosedCase). given (end_text f c.machine.live) c) (and_then (given (case_head f d) d) (case_journal f phases))
        (then-live (case_journal f phases) (given (case_head f d) d) (given-live (case_head f d) d) (λ ls e is. case_journal-live e)) (λ ls c is. given-live (end_text f c.machine.live) c)

    behind-live : IsLive (cases_behind f kinds)
    behind-live = mapped-live (λ (cases : List ClosedCase). record { kinds = kinds; cases = cases }) (cases_reader f phases f.cases) (row-live (λ n d. case_reader f phases d) 0 f.cases (λ n d. case-live d))

  -- ---- the report
  pub report-live : IsLive (report_reader f)
  report-live =
      let types = and_then (given (first_line f) 0) (λ (n : ℕ). kinds_reader f 0 f.types) in
      then-live (λ (r : Run). given (summary f r) r) (and_then types (cases_behind f))
      (then-live (cases_behind f) types (then-live (λ (n : ℕ). kinds_reader f 0 f.types) (given (first_line f) 0) (given-live {A = ℕ} (first_line f) 0) (λ ls n is. row-live (kind_reader f) 0 f.types kind-live))
      (λ ls ks is. let h = types-of f ls ks is in behind-live ks h.kinds.many (kind-at f h.part ks h.kinds)))
      (λ ls r is. given-live (summary f r) r)

-- Types and cases as journals whose lines are read.
use Rattle.std.proofs.Common.{◌≡◌, ℕ, ◌+◌, ◌<◌, ◌==◌, List, [], ◌∷◌, ◌++◌, length, map, Option, Some, None, refl, sym, ap, ◌∙◌, subst, arith, if◌then◌else◌, IfSome, option_map}
use Rattle.audit_model.proofs.Common.{actor_of, AllRows, Asked, call_of, call_writes, case_event_in, case_event_of, case_journal, case_made, CaseDecl, CaseEntry, cases, ClosedCase, ClosedKind, Event, File, filled, first_by, Followed}
use Rattle.audit_model.proofs.Common.{Follows, follows-mapped, GrowsTo, IsAuditable, IsOneLineWrite, IsWorkable, KeptCase, kind_behind, kind_journal, KindEntry, KindEvent, KindModel, kinds, Line, line_of, not_created, owed_case, owed_kind}
use Rattle.audit_model.proofs.{Common.{roles_of, StopsAt, version_event, VersionModel, with_others, writes-same, WritesOneLine, WritesValues, by-test}, JournalRight.IsReadable, Live.{case-line-one, kind-line-one}, Callers.tells-case}
use Rattle.audit_model.proofs.{Callers.tells-kind, Phases.{journal-stopped, journal-whole, journal_from}, Texts.{case-line, kind-line}}
use Rattle.line_calls.specs.{declared.calls.Call.Call, declared.calls.Told.Told}
use Rattle.line_calls.specs.declared.calls.Call.TheVariants as call
use Rattle.line_calls.specs.declared.calls.Told.TheVariants as tell

-- ---- the first line of an actor, without what was told
abbrev without_told : Asked × List Asked → Line × List Line
without_told p = (line_of p.0, map line_of p.1)

with-others : (x : Asked) (o : Option (Asked × List Asked)) → with_others (λ (l : Line). l.actor) (line_of x) (option_map without_told o) ≡ option_map without_told (with_others actor_of x o)
with-others x None = refl
with-others x (Some p) = refl

first-line : (a : ℕ) (phase : List Asked) → first_by (λ (l : Line). l.actor) a (map line_of phase) ≡ option_map without_told (first_by actor_of a phase)
first-line a [] = refl
first-line a (x ∷ xs) =
    let rest = first_by (λ (l : Line). l.actor) a (map line_of xs) in
    by-test (λ b. (if b then Some (line_of x, map line_of xs) else with_others (λ (l : Line). l.actor) (line_of x) rest) ≡ option_map without_told (if b then Some (x, xs) else with_others actor_of x (first_by actor_of a xs))) (actor_of x == a)
    (λ own. refl) (λ other. ap (with_others (λ (l : Line). l.actor) (line_of x)) (first-line a xs) ∙ with-others x (first_by actor_of a xs))

-- an event writes what its line writes
told-writes : (w : Told) (v : VersionModel) → WritesValues (version_event w v)
told-writes (tell.Create c) v = tt
told-writes (tell.Migrate many) v = tt

event-writes : (o : Option VersionModel) (k : Call) → AllRows IsOneLineWrite (call_writes k) → IfSome (case_event_in o k) WritesValues
event-writes o (call.Kind t e) one = tt
event-writes o (call.Case c e) one = one
event-writes None (call.Newest t w) one = tt
event-writes (Some v) (call.Newest t w) one = told-writes w v

pub line-writes : (f : File) (c : Asked) (e : Event) → WritesOneLine c.0 → case_event_of f c ≡ Some e → WritesValues e
line-writes f c e one is =
    let a = c.0.actor in
    let writes = subst (AllRows IsOneLineWrite) (sym (writes-same a (roles_of f a) c.0.act)) one in
    subst (λ o. IfSome o WritesValues) is (event-writes c.1 (call_of a (roles_of f a) c.0.act) writes)

some-lines : (phase : List Asked) → 0 < length phase → 0 < length (map line_of phase)
some-lines [] some = some
some-lines (c ∷ cs) some = omega arith

abbrev pub Any : {X : Type 0} → X → Type 0
Any x = Unit {0}

module _ (f : File) (workable : IsWorkable f) (auditable : IsAuditable f) where
  pub kinds-readable : IsReadable (λ (s : KindModel). Any s) (λ (e : KindEvent). Any e) (kinds f)
  kinds-readable = record {
    first = λ a phase c others is. first-line a phase ∙ ap (option_map without_told) is;
    none = λ a phase is. first-line a phase ∙ ap (option_map without_told) is;
    some = some-lines;
    one = λ k a s e actor kept good. kind-line-one f workable auditable k a s e actor tt tt;
    tells = tells-kind f auditable;
    ends = kind-line f;
  }

  pub cases-readable : IsReadable KeptCase WritesValues (cases f)
  cases-readable = record {
    first = λ a phase c others is. is;
    none = λ a phase is. is;
    some = λ phase some. some;
    one = case-line-one f workable auditable;
    tells = tells-case f auditable;
    ends = case-line f;
  }

module _ (f : File) where
  -- ---- the whole journal of a type, behind its definition
  pub kind-whole : (t : ℕ) (from to : ClosedKind) (old new : Followed) (owed : List (List Line)) → length from.journal + 1 ≡ 2 → owed ≡ filled (owed_kind f t)
      → GrowsTo (kinds f) from old to new (λ later. owed ++ later) (λ later. later) → Follows (kind_journal f t from) old new (Some to)
  kind-whole t from to old new owed place same grown =
      let (es, one, read) = journal-whole (kinds f) 2 from to old new (owed_kind f t) owed place same grown in
      subst (λ (js : List KindEntry). Follows (kind_journal f t from) old new (Some (record { machine = to.machine; journal = js }))) (sym one)
      (follows-mapped (kind_behind from) (journal_from (kinds f) 2 from.machine (owed_kind f t)) old new (Some (es, to.machine)) read)

  pub kind-stopped : (t : ℕ) (from : ClosedKind) (old new : Followed) (owed : List (List Line)) → length from.journal + 1 ≡ 2 → owed ≡ filled (owed_kind f t)
      → StopsAt (kinds f) from old new (λ later. owed ++ later) → Follows (kind_journal f t from) old new None
  kind-stopped t from old new owed place same stop =
      follows-mapped (kind_behind from) (journal_from (kinds f) 2 from.machine (owed_kind f t)) old new None (journal-stopped (kinds f) 2 from old new (owed_kind f t) owed place same stop)

  -- ---- that of a case, from its first call on
  abbrev uncalled_case : CaseDecl → ClosedCase
  uncalled_case d = record { machine = not_created d.id.type_no; journal = [] }

  pub case-whole : (phases : List (List Asked)) (d : CaseDecl) (to : ClosedCase) (old new : Followed) (owed : List (List Asked)) → owed ≡ filled (owed_case d.id phases)
      → GrowsTo (cases f) (uncalled_case d) old to new (λ later. owed ++ later) (λ later. later) → Follows (case_journal f phases d) old new (Some to)
  case-whole phases d to old new owed same grown =
      let from = uncalled_case d in
      let (es, one, read) = journal-whole (cases f) 1 from to old new (owed_case d.id phases) owed refl same grown in
      subst (λ (js : List CaseEntry). Follows (case_journal f phases d) old new (Some (record { machine = to.machine; journal = js }))) (sym one)
      (follows-mapped case_made (journal_from (cases f) 1 from.machine (owed_case d.id phases)) old new (Some (es, to.machine)) read)

  pub case-stopped : (phases : List (List Asked)) (d : CaseDecl) (old new : Followed) (owed : List (List Asked)) → owed ≡ filled (owed_case d.id phases)
      → StopsAt (cases f) (uncalled_case d) old new (λ later. owed ++ later) → Follows (case_journal f phases d) old new None
  case-stopped phases d old new owed same stop =
      let from = uncalled_case d in
      follows-mapped case_made (journal_from (cases f) 1 from.machine (owed_case d.id phases)) old new None (journal-stopped (cases f) 1 from old new (owed_case d.id phases) owed refl same stop)

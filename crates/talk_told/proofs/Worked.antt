-- What the journals have more behind a line, behind a type and behind a case.
use Rattle.talk_told.proofs.Common.{[], ℕ, ◌++◌, ◌+◌, ◌==◌, ◌∙◌, ◌∷◌, ◌≡◌, ◌≤◌, Act, acted, AllRows, answered_version, ap, append-nil, arith, Bool, Bytes, call_case, call_kind, case_entry, CaseDecl, CaseId, cases_more, cells_of, changed_at}
use Rattle.talk_told.proofs.Common.{changed_where, ClosedCase, ClosedKind, created, entries, entry_of_case, eqb-true, Event, false, File, HasType, HasVersion, if_both, if_there, if◌then◌else◌, IsAtWork, kind_entry, KindEvent, kinds_more}
use Rattle.talk_told.proofs.Common.{length, Line, List, migrated, newest, newest-told, newest_in, None, on_case, on_each, on_kind, Option, place-found, places_from, places_of, Placing, refl, Run, run_more, slice_get, Some, suc, sym, take}
use Rattle.talk_told.proofs.{Common.{true, types_of, VersionModel, worked, zero}, Changed.{cases-changed, cases-left, each-changed, entries_at, kinds-changed, kinds-left}}
use Rattle.case_core.specs.declared.events.Event.TheVariants as event
use Rattle.file_model.specs.declared.files.Act.TheVariants as act
use Rattle.line_calls.specs.Files.{place_of, roles_of}
use Rattle.line_calls.specs.declared.calls.Cells.TheVariants as cells
use Rattle.type_core.specs.declared.events.KindEvent.TheVariants as kind_event

both : {a b c d : Bytes} → a ≡ b → c ≡ d → a ++ c ≡ b ++ d
both {a} {b} {c} {d} e h = ap (λ l. l ++ c) e ∙ ap (λ l. b ++ l) h

-- the run at work, behind a call
abbrev behind : Placing → Run → Placing
behind p r = record p { run = r }

-- ---- a type that has a version answers it
newest-kind : (k : ClosedKind) → HasVersion k → newest_in (Some k) ≡ None → ⊥
newest-kind k has is = let told = newest-told k.machine has in cc (ap answered_version told.1, is)

newest-none : (ks : List ClosedKind) (t : ℕ) → AllRows HasVersion ks → newest_in (slice_get ks t) ≡ None → length ks ≤ t
newest-none [] t all is = omega arith
newest-none (k ∷ ks) zero all is = absurd (newest-kind k all.0 is)
newest-none (k ∷ ks) (suc t) all is = omega (arith, newest-none ks t all.1 is)

-- and where none does, no case is of that type
no-place : (k n t : ℕ) (d : CaseDecl) (later : List ℕ) → HasType n d → n ≤ t → later ≡ [] → (test : Bool) → (d.id.type_no == t) ≡ test → (if test then k ∷ later else later) ≡ []
no-place k n t d later has past none true is = absurd (omega (arith, eqb-true d.id.type_no t is, has, past))
no-place k n t d later has past none false is = none

no-places : (k n t : ℕ) (ds : List CaseDecl) → AllRows (HasType n) ds → n ≤ t → places_from k t (types_of ds) ≡ []
no-places k n t [] all past = refl
no-places k n t (d ∷ ds) all past = no-place k n t d (places_from (k + 1) t (types_of ds)) all.0 past (no-places (k + 1) n t ds all.1 past) (d.id.type_no == t) refl

none-of : (f : File) (p : Placing) (t : ℕ) → IsAtWork f p → newest t p.run ≡ None → places_of t p.placed.types ≡ []
none-of f p t h is =
    ap (places_of t) h.of.types ∙ no-places 0 (length p.run.kinds) t f.cases h.typed (newest-none p.run.kinds t h.versions is)

-- ---- a type and a case that are called
kind-part : (f : File) (a t : ℕ) (e : KindEvent) (ks : List ClosedKind) → if_there (kind_entry f t) (slice_get (changed_at (call_kind a e) t ks) t) ≡ kinds_more f 0 ks (changed_at (call_kind a e) t ks)
kind-part f a t e ks =
    let same : t ≡ 0 + t = omega arith in
    ap (λ n. if_there (kind_entry f n) (slice_get (changed_at (call_kind a e) t ks) t)) same ∙ sym (kinds-changed f a e 0 t ks)

-- the entry at a place, where there is one
abbrev at_place : File → List ClosedCase → Option ℕ → Bytes
at_place f cs o = if_there (λ place. if_both (case_entry f) (slice_get f.cases place) (slice_get cs place)) o

place-part : (f : File) (a : ℕ) (e : Event) (cs : List ClosedCase) (o : Option ℕ) → at_place f (changed_where (call_case a e) o cs) o ≡ cases_more f f.cases cs (changed_where (call_case a e) o cs)
place-part f a e cs None = sym (cases-left f f.cases cs)
place-part f a e cs (Some i) = sym (cases-changed f a e f.cases cs i)

case-part : (f : File) (p : Placing) (a : ℕ) (c : CaseId) (e : Event) (ks : List ClosedKind) → IsAtWork f p
    → entry_of_case f (behind p (record { kinds = ks; cases = changed_where (call_case a e) (place_of f c) p.run.cases })) c ≡ cases_more f f.cases p.run.cases (changed_where (call_case a e) (place_of f c) p.run.cases)
case-part f p a c e ks h =
    ap (at_place f (changed_where (call_case a e) (place_of f c) p.run.cases)) (place-found f c p.placed.types h.of.types h.of.placed) ∙ place-part f a e p.run.cases (place_of f c)

-- ---- what a call has told
kind-told : (f : File) (p : Placing) (a t : ℕ) (e : KindEvent) → entries f (behind p (on_kind a t e p.run)) (cells.Kind t) ≡ run_more f p.run (on_kind a t e p.run)
kind-told f p a t e =
    let k = kinds_more f 0 p.run.kinds (changed_at (call_kind a e) t p.run.kinds) in
    kind-part f a t e p.run.kinds ∙ sym (ap (λ l. k ++ l) (cases-left f f.cases p.run.cases) ∙ append-nil k)

case-told : (f : File) (p : Placing) (a : ℕ) (c : CaseId) (e : Event) → IsAtWork f p → entries f (behind p (on_case f a c e p.run)) (cells.Case c) ≡ run_more f p.run (on_case f a c e p.run)
case-told f p a c e h =
    let cs = cases_more f f.cases p.run.cases (changed_where (call_case a e) (place_of f c) p.run.cases) in
    case-part f p a c e p.run.kinds h ∙ ap (λ l. l ++ cs) (sym (kinds-left f 0 p.run.kinds))

-- a case that is created, where its type tells its version
created-told : (f : File) (p : Placing) (a : ℕ) (c : CaseId) → IsAtWork f p → (o : Option VersionModel) → (o ≡ None → places_of c.type_no p.placed.types ≡ [])
    → entries f (behind p (created f a c o (on_kind a c.type_no kind_event.Newest p.run))) (cells.KindAndCase c.type_no c) ≡ run_more f p.run (created f a c o (on_kind a c.type_no kind_event.Newest p.run))
created-told f p a c h None none =
    let cs = p.run.cases in
    let passed : at_place f cs (slice_get (places_of c.type_no p.placed.types) c.place) ≡ [] = ap (λ l. at_place f cs (slice_get l c.place)) (none refl) ∙ ap (at_place f cs) (nothing c.place) in
    both (kind-part f a c.type_no kind_event.Newest p.run.kinds) (passed ∙ sym (cases-left f f.cases cs))
  where
    nothing : (i : ℕ) → slice_get {X = ℕ} [] i ≡ None
    nothing zero = refl
    nothing (suc i) = refl
created-told f p a c h (Some v) none =
    both (kind-part f a c.type_no kind_event.Newest p.run.kinds) (case-part f p a c (event.Create v) (changed_at (call_kind a kind_event.Newest) c.type_no p.run.kinds) h)

take-none : (n : ℕ) → ◌≡◌ {A = List ℕ} (take n []) []
take-none zero = refl
take-none (suc n) = refl

-- the cases of a type that are to move, where it tells its version
migrated-told : (f : File) (p : Placing) (a t many : ℕ) → IsAtWork f p → (o : Option VersionModel) → (o ≡ None → places_of t p.placed.types ≡ [])
    → entries f (behind p (migrated f a t many o (on_kind a t kind_event.Newest p.run))) (cells.KindAndEach t many) ≡ run_more f p.run (migrated f a t many o (on_kind a t kind_event.Newest p.run))
migrated-told f p a t many h None none =
    let cs = p.run.cases in
    let passed : entries_at f f.cases cs (take many (places_of t p.placed.types)) ≡ [] = ap (λ l. entries_at f f.cases cs (take many l)) (none refl) ∙ ap (entries_at f f.cases cs) (take-none many) in
    both (kind-part f a t kind_event.Newest p.run.kinds) (passed ∙ sym (cases-left f f.cases cs))
migrated-told f p a t many h (Some v) none =
    let cs = (on_each f a t many (event.Migrate v) p.run).cases in
    both (kind-part f a t kind_event.Newest p.run.kinds)
    (ap (λ l. entries_at f f.cases cs (take many (places_of t l))) h.of.types ∙ sym (each-changed f a (event.Migrate v) many t f.cases p.run.cases h.of.placed h.of.many))

-- ---- a line
acted-told : (f : File) (p : Placing) (a : ℕ) (x : Act) → IsAtWork f p → entries f (behind p (acted f a x p.run)) (cells_of x) ≡ run_more f p.run (acted f a x p.run)
acted-told f p a (act.Create c) h = created-told f p a c h (newest c.type_no p.run) (none-of f p c.type_no h)
acted-told f p a (act.Start c node) h = case-told f p a c (event.Start node a (roles_of f a)) h
acted-told f p a (act.Withdraw c node) h = case-told f p a c (event.Withdraw node a) h
acted-told f p a (act.End c node choice writes) h = case-told f p a c (event.End node a choice writes) h
acted-told f p a (act.Change c ops) h = case-told f p a c (event.Change ops) h
acted-told f p a (act.Install t ops) h = kind-told f p a t (kind_event.Install ops)
acted-told f p a (act.Migrate t many) h = migrated-told f p a t many h (newest t p.run) (none-of f p t h)

-- the entries of a line's calls are those that the run behind it has more
pub worked-told : (f : File) (p : Placing) (l : Line) → IsAtWork f p → entries f (behind p (worked f p.run l)) (cells_of l.act) ≡ run_more f p.run (worked f p.run l)
worked-told f p l h = acted-told f p l.actor l.act h

-- ---- where no line was worked
pub nothing-told : (f : File) (r : Run) → run_more f r r ≡ []
nothing-told f r = both (kinds-left f 0 r.kinds) (cases-left f f.cases r.cases)

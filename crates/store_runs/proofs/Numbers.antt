-- The newest version of a type has the number of how many there are, so it is found by its number.
use Rattle.store_runs.proofs.Common.{[], ℕ, ◌++◌, ◌+◌, ◌-◌, ◌==◌, ◌∙◌, ◌∷◌, ◌≡◌, answered_version, ap, arith, Bool, call_kind, changed-later, changed_at, ClosedKind, defined_by, Err, event_on, false, get-changed, if◌then◌else◌}
use Rattle.store_runs.proofs.Common.{installed_by, KindEvent, KindModel, length, length-append, List, nat_lt, ne_eqb, newest, newest_in, newest_of, next_kind, None, Ok, on_kind, Option, option_map, refl, Result, Run, same_Some, slice_get}
use Rattle.store_runs.proofs.Common.{AllRows, row-at, Some, subst, suc, sym, true, version_in, version_of, version_of_kind, VersionModel, with_version, zero}
use Rattle.type_core.proofs.Numbering.{none_newest}
use Rattle.type_core.specs.declared.events.KindEvent.TheVariants as kind_event
use Rattle.type_core.specs.declared.replies.KindReply.TheVariants as reply
use Rattle.wsm_ops.specs.declared.operations.Op.{Op}
use Rattle.wsm_schema.specs.SchemaModel.{SchemaModel}
use Rattle.wsm_sound.specs.{Faults.{changed_by, fault_of, unless_fault}, Versions.{first_version, next_version, with_schema}, declared.faults.Fault.Fault}

abbrev pub IsCounted : KindModel → Type 0
IsCounted k = (w : VersionModel) → newest_of k.versions ≡ Some w → w.number ≡ length k.versions

last-is : (vs : List VersionModel) (v : VersionModel) → slice_get (vs ++ v ∷ []) (length vs) ≡ Some v
last-is [] v = refl
last-is (u ∷ us) v = last-is us v

newest-is : (vs : List VersionModel) (v : VersionModel) → newest_of (vs ++ v ∷ []) ≡ Some v
newest-is vs v = ap (slice_get (vs ++ v ∷ [])) (omega (arith, length-append vs (v ∷ []))) ∙ last-is vs v

one-more : (k : KindModel) (v : VersionModel) → v.number ≡ length k.versions + 1 → IsCounted (with_version k v)
one-more k v number w is =
    let same : v ≡ w = same_Some v w (sym (newest-is k.versions v) ∙ is) in
    ap (λ x. x.number) (sym same) ∙ number ∙ sym (length-append k.versions (v ∷ []))

by-defined : (k : KindModel) (r : Result SchemaModel Fault) → IsCounted k → length k.versions ≡ 0 → IsCounted (defined_by k (with_schema (first_version k.type_no) r)).0
by-defined k (Ok s) counted none = one-more k (first_version k.type_no s) (omega (arith, none))
by-defined k (Err f) counted none = counted

by-installed : (k : KindModel) (full : Bool) (n : VersionModel) (ops : List Op) (r : Result SchemaModel Fault) → IsCounted k → newest_of k.versions ≡ Some n
    → IsCounted (if full then (k, reply.VersionLimit) else installed_by k (with_schema (next_version n ops) r)).0
by-installed k true n ops r counted is = counted
by-installed k false n ops (Ok s) counted is = one-more k (next_version n ops s) (ap (λ x. x + 1) (counted n is))
by-installed k false n ops (Err f) counted is = counted

by-event : (k : KindModel) (o : Option VersionModel) (e : KindEvent) → newest_of k.versions ≡ o → IsCounted k → IsCounted (event_on k o e).0
by-event k None (kind_event.Define s) is counted = by-defined k (unless_fault (fault_of s) s) counted (none_newest k.versions is)
by-event k None (kind_event.Install ops) is counted = counted
by-event k None kind_event.Newest is counted = counted
by-event k (Some n) (kind_event.Define s) is counted = counted
by-event k (Some n) (kind_event.Install ops) is counted = by-installed k (nat_lt 255 (length k.versions)) n ops (changed_by n.schema ops) counted is
by-event k (Some n) kind_event.Newest is counted = counted

pub after-event : (k : KindModel) (e : KindEvent) → IsCounted k → IsCounted (next_kind k e).0
after-event k e counted = by-event k (newest_of k.versions) e refl counted

-- each type of a run
abbrev pub AllCounted : List ClosedKind → Type 0
AllCounted ks = AllRows (λ k. IsCounted k.machine) ks

pub counted-changed : (a t : ℕ) (e : KindEvent) (ks : List ClosedKind) → AllCounted ks → AllCounted (changed_at (call_kind a e) t ks)
counted-changed a zero e [] all = tt
counted-changed a (suc t) e [] all = tt
counted-changed a zero e (k ∷ ks) all = (after-event k.machine e all.0, all.1)
counted-changed a (suc t) e (k ∷ ks) all = subst AllCounted (sym (changed-later (call_kind a e) t k ks)) (all.0, counted-changed a t e ks all.1)

-- it is found by its number
at-number : (vs : List VersionModel) (v : VersionModel) → v.number ≡ length vs → newest_of vs ≡ Some v → version_in vs v.number ≡ Some v
at-number [] v number is = absurd cc
at-number (x ∷ xs) v number is =
    let some : (length (x ∷ xs) == 0) ≡ false = ne_eqb (length (x ∷ xs)) 0 (λ none. omega (arith, none)) in
    ap (version_in (x ∷ xs)) number ∙ ap (λ b. if b then None else slice_get (x ∷ xs) (length (x ∷ xs) - 1)) some ∙ is

-- a type that is asked answers its newest version
pub answer-is : (k : KindModel) (o : Option VersionModel) → answered_version (event_on k o kind_event.Newest).1 ≡ o
answer-is k None = refl
answer-is k (Some v) = refl

pub found-by-number : (r : Run) (t : ℕ) (v : VersionModel) → AllCounted r.kinds → newest t r ≡ Some v → version_of r t v.number ≡ Some v
found-by-number r t v all is = go (slice_get r.kinds t) refl is
  where
    go : (o : Option ClosedKind) → slice_get r.kinds t ≡ o → newest_in o ≡ Some v → version_of_kind v.number o ≡ Some v
    go None at is = absurd cc
    go (Some k) at is =
        let has = sym (answer-is k.machine (newest_of k.machine.versions)) ∙ is in
        at-number k.machine.versions v (row-at (λ x. IsCounted x.machine) r.kinds t k all at v has) has

-- a type that is asked for its newest version stays as it is
pub asked : (k : KindModel) (o : Option VersionModel) → (event_on k o kind_event.Newest).0 ≡ k
asked k None = refl
asked k (Some v) = refl

pub found-when-asked : (a t n : ℕ) (r : Run) → version_of (on_kind a t kind_event.Newest r) t n ≡ version_of r t n
found-when-asked a t n r = ap (version_of_kind n) (get-changed (call_kind a kind_event.Newest) t r.kinds) ∙ go (slice_get r.kinds t)
  where
    go : (o : Option ClosedKind) → version_of_kind n (option_map (call_kind a kind_event.Newest) o) ≡ version_of_kind n o
    go None = refl
    go (Some k) = ap (λ m. version_in m.versions n) (asked k.machine (newest_of k.machine.versions))

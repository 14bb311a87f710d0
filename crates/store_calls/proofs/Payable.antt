-- The calls of a file that is read can be written as payloads: no block of a sound type stands too deep.
use Rattle.std.proofs.{Common.{◌≡◌, ℕ, ◌+◌, Bool, true, false, List, [], ◌∷◌, ◌++◌, fold, Option, Some, None, refl, arith}, lemmas.Bool.Decides.nat_tests}
use Rattle.std.specs.{Prelude.{nat_le, nat_lt, option_map, if◌then◌else◌}, List.AllByRecursion}
use Rattle.case_core.specs.declared.events.Event.{Event}
use Rattle.case_core.specs.declared.events.Event.TheVariants as event
use Rattle.file_facts.specs.Facts.{IsSound, IsWorkable}
use Rattle.file_model.specs.{CaseCounts.is_among, declared.files.CaseDecl.CaseDecl, declared.files.File.File, declared.files.Line.Line, declared.files.TypeDecl.TypeDecl}
use Rattle.line_calls.proofs.Facts.{plain-call}
use Rattle.line_calls.specs.{Calls.call_of, Files.roles_of, Known.{IsPlain, brings_version, is_install}, declared.calls.Call.Call}
use Rattle.line_calls.specs.declared.calls.Call.TheVariants as call
use Rattle.line_calls.specs.declared.calls.Told.TheVariants as told
use Rattle.store_calls.specs.Calls.{Told, by, calls, create_calls, definitions, migrate_calls, migrations, newest_number, records, stored_kind, told_line, told_phase, told_types}
use Rattle.store_form.specs.declared.stored.Recorded.{Recorded}
use Rattle.store_form.specs.declared.stored.Stored.TheVariants as stored
use Rattle.store_room.specs.Room.{IsPayable}
use Rattle.type_core.specs.{KindModel.KindModel, declared.events.KindEvent.KindEvent}
use Rattle.type_core.specs.declared.events.KindEvent.TheVariants as kind_event
use Rattle.wsm_lists.specs.Rows.{AllRows}
use Rattle.wsm_ops.proofs.Distinct.{first_none}
use Rattle.wsm_schema.specs.{SchemaModel.SchemaModel, Sound.{block_fault, data_fault, over_limit, parts_depth, when}}
use Rattle.wsm_sound.specs.{Faults.fault_of, declared.versions.CaseId.CaseId}
use Rattle.wsm_sound.specs.declared.faults.Fault.TheVariants as fault

abbrev All : List Recorded → Type 0
All cs = AllByRecursion IsPayable cs

all-append : (xs ys : List Recorded) → All xs → All ys → All (xs ++ ys)
all-append [] ys one two = two
all-append (x ∷ xs) ys one two = (one.0, all-append xs ys one.1 two)

not-mapped : {X Y : Type 0} (f : X → Y) (o : Option X) → option_map f o ≡ None → o ≡ None
not-mapped f None is = refl
not-mapped f (Some x) is = absurd cc

not-when : {X : Type 0} (b : Bool) (x : X) → when b x ≡ None → b ≡ false
not-when true x is = absurd cc
not-when false x is = refl

sound-shallow : (s : SchemaModel) → fault_of s ≡ None → nat_le (parts_depth s.body) 64 ≡ true
unfolding fault_of
sound-shallow s sound =
    let blocks : block_fault s ≡ None = not-mapped fault.Block (block_fault s) (first_none (option_map fault.Block (block_fault s)) (option_map fault.Data (data_fault s)) sound).0 in
    let limits : over_limit s ≡ None = (first_none (over_limit s) _ blocks).0 in
    let shallow : nat_lt 64 (parts_depth s.body) ≡ false = not-when (nat_lt 64 (parts_depth s.body)) _ (first_none _ _ (first_none _ _ limits).1).0 in
    grind (arith, nat_tests, shallow)

pub definitions-payable : (t : ℕ) (ds : List TypeDecl) → AllRows IsSound ds → All (definitions t ds)
definitions-payable t [] sound = tt
definitions-payable t (d ∷ ds) sound = ((sound-shallow d.schema sound.0, tt), definitions-payable (t + 1) ds sound.1)

create-payable : (a : ℕ) (c : CaseId) (o : Option ℕ) → All (create_calls a c o)
create-payable a c None = tt
create-payable a c (Some number) = ((refl, tt), tt)

one-more : (b : Bool) (r : Recorded) (rs : List Recorded) → IsPayable r → All rs → All (if b then r ∷ rs else rs)
one-more true r rs one all = (one, all)
one-more false r rs one all = all

migrations-payable : (a t many n : ℕ) (ds : List CaseDecl) → All (migrations a t many n ds)
migrations-payable a t many n [] = tt
migrations-payable a t many n (d ∷ ds) = one-more (is_among t many d) (by a (stored.Migrate d.id n)) (migrations a t many n ds) (refl, tt) (migrations-payable a t many n ds)

migrate-payable : (a t many : ℕ) (ds : List CaseDecl) (o : Option ℕ) → All (migrate_calls a t many ds o)
migrate-payable a t many ds None = tt
migrate-payable a t many ds (Some number) = migrations-payable a t many number ds

kind-payable : (a t : ℕ) (e : KindEvent) → is_install e ≡ true → IsPayable (by a (stored_kind t e))
kind-payable a t (kind_event.Define schema) plain = absurd (cc (plain))
kind-payable a t (kind_event.Install ops) plain = (refl, tt)
kind-payable a t kind_event.Newest plain = absurd (cc (plain))

case-payable : (a : ℕ) (c : CaseId) (e : Event) → brings_version e ≡ false → IsPayable (by a (stored.Case c e))
case-payable a c (event.Create version) plain = absurd (cc (plain))
case-payable a c (event.Migrate version) plain = absurd (cc (plain))
case-payable a c (event.Start n user roles) plain = (refl, tt)
case-payable a c (event.End n user choice writes) plain = (refl, tt)
case-payable a c (event.Withdraw n user) plain = (refl, tt)
case-payable a c (event.Change ops) plain = (refl, tt)

pub call-payable : (ds : List CaseDecl) (a : ℕ) (kinds : List KindModel) (k : Call) → IsPlain k → All (records ds a kinds k)
call-payable ds a kinds (call.Kind t e) plain = (kind-payable a t e plain, tt)
call-payable ds a kinds (call.Case c e) plain = (case-payable a c e plain, tt)
call-payable ds a kinds (call.Newest t (told.Create c)) plain = ((refl, tt), create-payable a c (newest_number t kinds))
call-payable ds a kinds (call.Newest t (told.Migrate many)) plain = ((refl, tt), migrate-payable a t many ds (newest_number t kinds))

line-payable : (f : File) (s : Told) (l : Line) → All s.calls → All (told_line f s l).calls
line-payable f s l all =
    let a = l.actor in
    let k = call_of a (roles_of f a) l.act in
    all-append s.calls (records f.cases a s.kinds k) all (call-payable f.cases a s.kinds k (plain-call a (roles_of f a) l.act))

all-told : {X : Type 0} (step : Told → X → Told) → ((s : Told) (x : X) → All s.calls → All (step s x).calls) → (xs : List X) (s : Told) → All s.calls → All (fold step s xs).calls
all-told step one [] s all = all
all-told step one (x ∷ xs) s all = all-told step one xs (step s x) (one s x all)

pub payable_calls : (f : File) → IsWorkable f → AllByRecursion IsPayable (calls f)
payable_calls f workable =
    all-told (told_phase f) (λ s p all. all-told (told_line f) (line-payable f) p s all) f.phases (told_types f.types) (definitions-payable 0 f.types workable.sound)

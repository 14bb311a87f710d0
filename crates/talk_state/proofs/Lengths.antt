-- Calls leave as many types and cases as there were.
use Rattle.talk_state.proofs.Common.{[], ℕ, ◌∙◌, ◌∷◌, ◌≡◌, ap, call_case, call_kind, call_of, called, CaseDecl, changed_at, changed_where, ClosedCase, each_of, File, length, length-set, Line, List, newest, None, on_kind, Option, put_back}
use Rattle.talk_state.proofs.Common.{refl, Run, slice_get, Some, suc, told_to, worked}
use Rattle.case_core.specs.declared.events.Event.TheVariants as event
use Rattle.line_calls.specs.{Files.{place_of, roles_of}, declared.calls.Call.Call, declared.calls.Told.Told}
use Rattle.line_calls.specs.declared.calls.Call.TheVariants as call
use Rattle.line_calls.specs.declared.calls.Told.TheVariants as told
use Rattle.type_core.specs.declared.events.KindEvent.TheVariants as kind_event
use Rattle.wsm_sound.specs.VersionModel.{VersionModel}

length-put_back : {X : Type 0} (f : X → X) (i : ℕ) (xs : List X) (o : Option X) → length (put_back f i xs o) ≡ length xs
length-put_back f i xs None = refl
length-put_back f i xs (Some x) = length-set xs i (f x)

length-changed_at : {X : Type 0} (f : X → X) (i : ℕ) (xs : List X) → length (changed_at f i xs) ≡ length xs
length-changed_at f i xs = length-put_back f i xs (slice_get xs i)

length-changed_where : {X : Type 0} (f : X → X) (o : Option ℕ) (xs : List X) → length (changed_where f o xs) ≡ length xs
length-changed_where f None xs = refl
length-changed_where f (Some i) xs = length-changed_at f i xs

length-each_of : (t many : ℕ) (f : ClosedCase → ClosedCase) (ds : List CaseDecl) (cs : List ClosedCase) → length (each_of t many f ds cs) ≡ length cs
length-each_of t many f [] cs = refl
length-each_of t many f (d ∷ ds) [] = refl
length-each_of t many f (d ∷ ds) (c ∷ cs) = ap suc (length-each_of t many f ds cs)

kinds-told : (f : File) (caller t : ℕ) (w : Told) (o : Option VersionModel) (r : Run) → length (told_to f caller t w o r).kinds ≡ length r.kinds
kinds-told f caller t (told.Create c) None r = refl
kinds-told f caller t (told.Create c) (Some v) r = refl
kinds-told f caller t (told.Migrate many) None r = refl
kinds-told f caller t (told.Migrate many) (Some v) r = refl

cases-told : (f : File) (caller t : ℕ) (w : Told) (o : Option VersionModel) (r : Run) → length (told_to f caller t w o r).cases ≡ length r.cases
cases-told f caller t (told.Create c) None r = refl
cases-told f caller t (told.Create c) (Some v) r = length-changed_where (call_case caller (event.Create v)) (place_of f c) r.cases
cases-told f caller t (told.Migrate many) None r = refl
cases-told f caller t (told.Migrate many) (Some v) r = length-each_of t many (call_case caller (event.Migrate v)) f.cases r.cases

kinds-called : (f : File) (caller : ℕ) (c : Call) (r : Run) → length (called f caller c r).kinds ≡ length r.kinds
kinds-called f caller (call.Kind t e) r = length-changed_at (call_kind caller e) t r.kinds
kinds-called f caller (call.Case c e) r = refl
kinds-called f caller (call.Newest t w) r =
    kinds-told f caller t w (newest t r) (on_kind caller t kind_event.Newest r) ∙ length-changed_at (call_kind caller kind_event.Newest) t r.kinds

cases-called : (f : File) (caller : ℕ) (c : Call) (r : Run) → length (called f caller c r).cases ≡ length r.cases
cases-called f caller (call.Kind t e) r = refl
cases-called f caller (call.Case c e) r = length-changed_where (call_case caller e) (place_of f c) r.cases
cases-called f caller (call.Newest t w) r = cases-told f caller t w (newest t r) (on_kind caller t kind_event.Newest r)

pub kinds-worked : (f : File) (r : Run) (l : Line) → length (worked f r l).kinds ≡ length r.kinds
kinds-worked f r l = kinds-called f l.actor (call_of l.actor (roles_of f l.actor) l.act) r

pub cases-worked : (f : File) (r : Run) (l : Line) → length (worked f r l).cases ≡ length r.cases
cases-worked f r l = cases-called f l.actor (call_of l.actor (roles_of f l.actor) l.act) r

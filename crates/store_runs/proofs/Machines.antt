-- The types of a run without their journals.
use Rattle.store_runs.proofs.Common.{[], ℕ, ◌∙◌, ◌∷◌, ◌≡◌, ap, call_kind, changed-later, changed_at, ClosedKind, KindEvent, KindModel, List, map, newest, newest_in, newest_number, newest_of, None, number_in, on_kind}
use Rattle.store_runs.proofs.{Common.{Option, option_map, refl, Run, slice_get-map, slice_get, Some, stepped, suc, sym, VersionModel, zero}, Numbers.{answer-is, asked}}
use Rattle.type_core.specs.declared.events.KindEvent.TheVariants as kind_event

abbrev pub machines : List ClosedKind → List KindModel
machines ks = map (λ k. k.machine) ks

-- the number of the newest version is that of the version that a type answers
abbrev pub number : Option VersionModel → Option ℕ
number o = option_map (λ v. v.number) o

number-of : (o : Option ClosedKind) → number_in (option_map (λ k. k.machine) o) ≡ number (newest_in o)
number-of None = refl
number-of (Some k) = ap number (sym (answer-is k.machine (newest_of k.machine.versions)))

pub newest-is : (t : ℕ) (r : Run) → newest_number t (machines r.kinds) ≡ number (newest t r)
newest-is t r = ap number_in (slice_get-map (λ k. k.machine) r.kinds t) ∙ number-of (slice_get r.kinds t)

-- a type is changed at its place
pub kinds-changed : (a t : ℕ) (e : KindEvent) (ks : List ClosedKind) → machines (changed_at (call_kind a e) t ks) ≡ changed_at (stepped e) t (machines ks)
kinds-changed a zero e [] = refl
kinds-changed a (suc t) e [] = refl
kinds-changed a zero e (k ∷ ks) = refl
kinds-changed a (suc t) e (k ∷ ks) =
    ap machines (changed-later (call_kind a e) t k ks) ∙ ap (λ ms. k.machine ∷ ms) (kinds-changed a t e ks)
    ∙ sym (changed-later (stepped e) t k.machine (machines ks))

-- and not by the question for its newest version
kinds-asked : (t : ℕ) (ks : List KindModel) → changed_at (stepped kind_event.Newest) t ks ≡ ks
kinds-asked zero [] = refl
kinds-asked (suc t) [] = refl
kinds-asked zero (k ∷ ks) = ap (λ m. m ∷ ks) (asked k (newest_of k.versions))
kinds-asked (suc t) (k ∷ ks) = changed-later (stepped kind_event.Newest) t k ks ∙ ap (λ ms. k ∷ ms) (kinds-asked t ks)

pub kinds-same : (a t : ℕ) (r : Run) → machines (on_kind a t kind_event.Newest r).kinds ≡ machines r.kinds
kinds-same a t r = kinds-changed a t kind_event.Newest r.kinds ∙ kinds-asked t (machines r.kinds)

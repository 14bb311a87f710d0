-- A type that was called and is put back is as it was.
use Rattle.unit_run.proofs.Common.{[], ℕ, ◌++◌, ◌∙◌, ◌∷◌, ◌≡◌, ap, call_kind, changed_at, ClosedKind, length, List, None, on_kind, Option, option_map, put_back, refl, Run, slice_get, Some, suc, take, zero}
use Rattle.type_core.specs.declared.events.KindEvent.{KindEvent}
use Rattle.unit_run.specs.Tries.{before_of, kind_before, put_back_kind, restored}

pub got-none : {X : Type 0} (i : ℕ) → slice_get {X = X} [] i ≡ None
got-none zero = refl
got-none (suc i) = refl

pub changed_at-none : {X : Type 0} (g : X → X) (i : ℕ) → changed_at g i [] ≡ []
changed_at-none g i = ap (put_back g i []) (got-none i)

pub changed_at-suc : {X : Type 0} (g : X → X) (i : ℕ) (x : X) (xs : List X) → changed_at g (suc i) (x ∷ xs) ≡ x ∷ changed_at g i xs
changed_at-suc g i x xs = by (slice_get xs i)
  where
    by : (o : Option _) → put_back g (suc i) (x ∷ xs) o ≡ x ∷ put_back g i xs o
    by None = refl
    by (Some y) = refl

-- the front of a journal
take-front : {X : Type 0} (xs ys : List X) → take (length xs) (xs ++ ys) ≡ xs
take-front [] ys = take-zero ys
  where
    take-zero : {X : Type 0} (ys : List X) → take 0 ys ≡ []
    take-zero [] = refl
    take-zero (y ∷ ys) = refl
take-front (x ∷ xs) ys = ap (λ l. x ∷ l) (take-front xs ys)

one-back : (a : ℕ) (e : KindEvent) (k : ClosedKind) → restored (before_of k) (call_kind a e k) ≡ k
one-back a e k = ap (λ j. record { machine = k.machine; journal = j }) (take-front k.journal _)

back-at : (a : ℕ) (e : KindEvent) (t : ℕ) (ks : List ClosedKind) (k : ClosedKind) → slice_get ks t ≡ Some k → changed_at (restored (before_of k)) t (changed_at (call_kind a e) t ks) ≡ ks
back-at a e zero [] k at = refl
back-at a e (suc t) [] k at = refl
back-at a e zero (x ∷ ks) k at = let same : k ≡ x = cc (at) in ap (λ y. restored (before_of y) (call_kind a e x) ∷ ks) same ∙ ap (λ y. y ∷ ks) (one-back a e x)
back-at a e (suc t) (x ∷ ks) k at =
    ap (changed_at (restored (before_of k)) (suc t)) (changed_at-suc (call_kind a e) t x ks)
    ∙ changed_at-suc (restored (before_of k)) t x (changed_at (call_kind a e) t ks)
    ∙ ap (λ l. x ∷ l) (back-at a e t ks k at)

none-at : (a : ℕ) (e : KindEvent) (t : ℕ) (ks : List ClosedKind) → slice_get ks t ≡ None → changed_at (call_kind a e) t ks ≡ ks
none-at a e t ks none = ap (put_back (call_kind a e) t ks) none

-- a run whose type was called, where the type is put back
pub kind-back : (a t : ℕ) (e : KindEvent) (r : Run) → put_back_kind t (kind_before t r) (on_kind a t e r) ≡ r
kind-back a t e r = by (slice_get r.kinds t) refl
  where
    by : (o : Option ClosedKind) → slice_get r.kinds t ≡ o → put_back_kind t (kind_before t r) (on_kind a t e r) ≡ r
    by None none = ap (λ o. put_back_kind t (option_map before_of o) (on_kind a t e r)) none ∙ ap (λ ks. record { kinds = ks; cases = r.cases }) (none-at a e t r.kinds none)
    by (Some k) at = ap (λ o. put_back_kind t (option_map before_of o) (on_kind a t e r)) at ∙ ap (λ ks. record { kinds = ks; cases = r.cases }) (back-at a e t r.kinds k at)

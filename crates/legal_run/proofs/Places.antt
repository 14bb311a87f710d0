-- Lists, place by place.
use Rattle.legal_run.proofs.Common.{[], ℕ, ◌+◌, ◌<◌, ◌==◌, ◌∙◌, ◌∷◌, ◌≡◌, ◌≢◌, add-one, ap, arith, drop, drop-cons, eq-eqb, get_or, if◌then◌else◌, length, List, ne_eqb, Option, refl, set, slice_get, Some, subst, suc, sym, zero}
use mathlib.Core.Logic.{dite}
use native.Mathlib.Decide.{ℕ_discrete}

pub some_one : {A : Type 0} {x y : A} {o : Option A} → o ≡ Some x → o ≡ Some y → x ≡ y
some_one e f = cc (e, f)

-- of two lists as long as one another both have something at a place, or none
pub there-as : {A B : Type 0} (xs : List A) (ys : List B) (i : ℕ) (x : A) → length ys ≡ length xs → slice_get xs i ≡ Some x → (y : B) × (slice_get ys i ≡ Some y)
there-as [] ys i x many is = absurd (cc (is))
there-as (z ∷ xs) [] i x many is = absurd (omega arith)
there-as (z ∷ xs) (y ∷ ys) zero x many is = (y, refl)
there-as (z ∷ xs) (y ∷ ys) (suc i) x many is = there-as xs ys i x (omega arith) is

-- what is put at a place stands there, and at another place what stood there
pub set-here : {A : Type 0} (xs : List A) (i : ℕ) (y x : A) → slice_get xs i ≡ Some x → slice_get (set xs i y) i ≡ Some y
set-here [] i y x is = absurd (cc (is))
set-here (z ∷ xs) zero y x is = refl
set-here (z ∷ xs) (suc i) y x is = set-here xs i y x is

pub set-other : {A : Type 0} (xs : List A) (i j : ℕ) (y : A) → i ≢ j → slice_get (set xs i y) j ≡ slice_get xs j
set-other [] i j y not = refl
set-other (x ∷ xs) zero zero y not = absurd (not refl)
set-other (x ∷ xs) zero (suc j) y not = refl
set-other (x ∷ xs) (suc i) zero y not = refl
set-other (x ∷ xs) (suc i) (suc j) y not = set-other xs i j y (λ e. not (ap suc e))

-- the item at a place, and those behind it
pub cut-at : {A : Type 0} (items xs : List A) (i : ℕ) (x : A) → items ≡ xs → i < length items → x ≡ get_or items i x → drop i xs ≡ x ∷ drop (i + 1) xs
cut-at items xs i x same low is =
    let cut : drop i items ≡ get_or items i x ∷ drop (i + 1) items = rw add-one (drop-cons items i x low) in
    subst (λ ys. drop i ys ≡ x ∷ drop (i + 1) ys) same (cut ∙ ap (λ y. y ∷ drop (i + 1) items) (sym is))

-- Where one item of a list becomes another by some steps, that is what becomes of each item: by these steps, or by none.
module _ {X E : Type 0} (Becomes : List E → X → X → Type 0) (stays : (x : X) → Becomes [] x x) where
  pub one-becomes : (xs ys : List X) (i : ℕ) (x y : X) (es : List E) → slice_get xs i ≡ Some x → ys ≡ set xs i y → Becomes es x y
      → (j : ℕ) (p q : X) → slice_get xs j ≡ Some p → slice_get ys j ≡ Some q → Becomes (if i == j then es else []) p q
  one-becomes xs ys i x y es there is becomes j p q at at_then =
      let in_set : slice_get (set xs i y) j ≡ Some q = ap (λ zs. slice_get zs j) (sym is) ∙ at_then in
      dite (ℕ_discrete i j)
      (λ (same : i ≡ j).
      let is_p : x ≡ p = some_one there (ap (slice_get xs) same ∙ at) in
      let is_q : y ≡ q = some_one (set-here xs i y x there) (ap (slice_get (set xs i y)) same ∙ in_set) in
      rw (eq-eqb i j same, ← is_p, ← is_q) becomes)
      (λ (not : i ≢ j). rw (ne_eqb i j not, ← some_one at (sym (set-other xs i j y not) ∙ in_set)) (stays p))

-- What a set has after a put, and in what is left of a list.
use Rattle.wsm_data.proofs.Common.{[], ℕ, ◌&&◌, ◌<◌, ◌||◌, ◌∙◌, ◌∷◌, ◌≡◌, ◌≤◌, ap, ascends_put, Bool, cases_Bool, eq_means, eqb, eqb-true, false, get_or, inl, InOrder, inr, insert, insert_where_absent, is_one_of, is_row_at, is_some, key_eq}
use Rattle.wsm_data.proofs.Common.{key_lt, length, List, number, put_row, refl, row_at, row_is_there, rows_below, slice_get, subst, sym, true}
use Rattle.std.proofs.lemmas.Option.{slice_get-get_or, slice_get_past}

pub eq_number : (a n : ℕ) → key_eq (a, 0) (n, 0) ≡ eqb a n
eq_number a n =
    elim (cases_Bool (eqb a n)) [
      | inl same ↦ rw same refl
      | inr other ↦ rw other refl
    ]

-- or, in another order
pub or_swap : (a b : Bool) → (a || b) ≡ (b || a)
or_swap true true = refl
or_swap true false = refl
or_swap false true = refl
or_swap false false = refl

pub or_group : (a b c : Bool) → ((a || b) || c) ≡ (a || (b || c))
or_group true b c = refl
or_group false b c = refl

pub and_false : (a : Bool) → (a && false) ≡ false
and_false true = refl
and_false false = refl

or_twice : (a b : Bool) → ((a || b) || a) ≡ (a || b)
or_twice true b = refl
or_twice false true = refl
or_twice false false = refl

-- the row of a number tells whether it is in the set
pub has-is : (d : ℕ) (set : List ℕ) → is_some (row_at number (d, 0) set) ≡ is_one_of d set
has-is d [] = refl
has-is d (x ∷ xs) =
    elim (cases_Bool (eqb x d)) [
      | inl same ↦ rw (eq_number x d, same) refl
      | inr other ↦ rw (eq_number x d, other) (has-is d xs)
    ]

pub has-put_row : (d x : ℕ) (set : List ℕ) → is_one_of d (put_row number x set) ≡ (is_one_of d set || eqb x d)
has-put_row d x [] = or_swap (eqb x d) false
has-put_row d x (y ∷ ys) =
    elim (cases_Bool (key_lt (y, 0) (x, 0))) [
      | inl below ↦ rw below (ap (λ b. eqb y d || b) (has-put_row d x ys) ∙ sym (or_group (eqb y d) (is_one_of d ys) (eqb x d)))
      | inr not_below ↦ elim (cases_Bool (key_eq (y, 0) (x, 0))) [
        | inl same ↦
            let one : y ≡ x = (eq_means (y, 0) (x, 0) same).0 in
            rw (not_below, same) (sym (or_twice (eqb x d) (is_one_of d ys)) ∙ ap (λ k. (eqb k d || is_one_of d ys) || eqb x d) (sym one))
        | inr other ↦ rw (not_below, other) (or_swap (eqb x d) (eqb y d || is_one_of d ys))
      ]
    ]

pub has-there : (d x : ℕ) (set : List ℕ) → is_one_of x set ≡ true → is_one_of d set ≡ (is_one_of d set || eqb x d)
has-there d x set there =
    elim (cases_Bool (eqb x d)) [
      | inl same ↦ let here : is_one_of d set ≡ true = ap (λ k. is_one_of k set) (sym (eqb-true x d same)) ∙ there in rw here refl
      | inr other ↦ rw other (or_swap false (is_one_of d set))
    ]

-- a number stands at its place, or nowhere
pub stands-at : (d at : ℕ) (set : List ℕ) → InOrder set → at ≡ rows_below number (d, 0) set → at < length set → eqb (get_or set at 0) d ≡ is_one_of d set
stands-at d at set order place within =
    sym (eq_number (get_or set at 0) d)
    ∙ ap (is_row_at number (d, 0)) (sym (slice_get-get_or set at 0 within)) ∙ ap (λ n. is_row_at number (d, 0) (slice_get set n)) place
    ∙ row_is_there number (d, 0) set order ∙ has-is d set

pub stands-nowhere : (d at : ℕ) (set : List ℕ) → InOrder set → at ≡ rows_below number (d, 0) set → length set ≤ at → false ≡ is_one_of d set
stands-nowhere d at set order place beyond =
    ap (is_row_at number (d, 0)) (sym (slice_get_past set at beyond)) ∙ ap (λ n. is_row_at number (d, 0) (slice_get set n)) place
    ∙ row_is_there number (d, 0) set order ∙ has-is d set

-- one more number at its place
pub insert-put : (d at : ℕ) (old new : List ℕ) → InOrder old → at ≡ rows_below number (d, 0) old → is_one_of d old ≡ false → new ≡ insert old at d → new ≡ put_row number d old
insert-put d at old new order place absent is = is ∙ ap (λ n. insert old n d) place ∙ sym (insert_where_absent number d old order (has-is d old ∙ absent))

pub insert-order : (d : ℕ) (old new : List ℕ) → InOrder old → new ≡ put_row number d old → InOrder new
insert-order d old new order is = subst InOrder (sym is) (ascends_put number d old order)

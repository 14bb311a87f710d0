-- What rows of a map and of a list tell of a node.
use Rattle.wsm_adapt.proofs.Common.{[], ℕ, ◌++◌, ◌∙◌, ◌∷◌, ◌≡◌, ap, both_ways, cases_Bool, eq-eqb, eqb, eqb-true, first, inl, inr, item_at, item_at-put, List, nat_eq, ne_eqb, None, option_or, put_row, refl, Some, sym}
use Rattle.std.specs.Map.{lookup}

pub lookup-item : {A : Type 0} (n : ℕ) (rows : List (ℕ × A)) → lookup (nat_eq n) rows ≡ item_at n rows
lookup-item n [] = refl
lookup-item n (r ∷ rs) =
    elim (cases_Bool (nat_eq n r.0)) [
      | inl same ↦ let e : n ≡ r.0 = eqb-true n r.0 same in rw (same, eq-eqb r.0 n (sym e)) refl
      | inr other ↦ rw (other, ne_eqb r.0 n (λ e. both_ways _ other (eq-eqb n r.0 (sym e)))) (lookup-item n rs)
    ]

-- a row that stands before all is as one that was put among them
pub put-in_front : {A : Type 0} (n : ℕ) (r : ℕ × A) (rows : List (ℕ × A)) → item_at n (r ∷ rows) ≡ item_at n (put_row first r rows)
put-in_front n r rows =
    elim (cases_Bool (eqb r.0 n)) [
      | inl same ↦ rw same refl
      | inr other ↦ rw other refl
    ]
    ∙ sym (item_at-put n r rows)

-- rows that stand before others tell first
item_at-append : {A : Type 0} (n : ℕ) (xs ys : List (ℕ × A)) → item_at n (xs ++ ys) ≡ option_or (item_at n xs) (item_at n ys)
item_at-append n [] ys = refl
item_at-append n (x ∷ xs) ys =
    elim (cases_Bool (eqb x.0 n)) [
      | inl same ↦ rw same refl
      | inr other ↦ rw other (item_at-append n xs ys)
    ]

pub told-first : {A : Type 0} (n : ℕ) (x : A) (xs ys : List (ℕ × A)) → item_at n xs ≡ Some x → item_at n (xs ++ ys) ≡ Some x
told-first n x xs ys is = item_at-append n xs ys ∙ ap (λ o. option_or o (item_at n ys)) is

pub told-later : {A : Type 0} (n : ℕ) (xs ys : List (ℕ × A)) → item_at n xs ≡ None → item_at n (xs ++ ys) ≡ item_at n ys
told-later n xs ys is = item_at-append n xs ys ∙ ap (λ o. option_or o (item_at n ys)) is

-- a row that was put among those before others is as one that was put among all
pub put-before : {A : Type 0} (n : ℕ) (r : ℕ × A) (new old others : List (ℕ × A)) → item_at n new ≡ item_at n (put_row first r old) → item_at n (new ++ others) ≡ item_at n (put_row first r (old ++ others))
put-before n r new old others is =
    item_at-append n new others
    ∙ ap (λ o. option_or o (item_at n others)) (is ∙ item_at-put n r old)
    ∙ elim (cases_Bool (eqb r.0 n)) [
      | inl same ↦ rw same refl
      | inr other ↦ rw other (sym (item_at-append n old others))
    ]
    ∙ sym (item_at-put n r (old ++ others))

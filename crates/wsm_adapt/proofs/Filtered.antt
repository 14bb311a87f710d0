-- The members of lists, and of those that are filtered.
use Rattle.wsm_adapt.proofs.Common.{[], ℕ, ◌<◌, ◌∙◌, ◌∷◌, ◌≡◌, AllRows, ap, arith, Bool, both_ways, cases_Bool, eq-eqb, eqb, eqb-true, filter, get_or, inl, inr, is_one_of, is_some, length, List, list_any, None, Option, refl, Some, subst}
use Rattle.wsm_adapt.proofs.Common.{suc, sym, true, zero}

pub filtered : (test : ℕ → Bool) (xs : List ℕ) (n : ℕ) → is_one_of n xs ≡ true → test n ≡ true → is_one_of n (filter test xs) ≡ true
filtered test [] n among it = among
filtered test (x ∷ xs) n among it =
    elim (cases_Bool (eqb x n)) [
      | inl same ↦ let e : test x ≡ true = ap test (eqb-true x n same) ∙ it in rw e (rw same refl)
      | inr other ↦ elim (cases_Bool (test x)) [
        | inl stays ↦ rw (stays, other) (filtered test xs n (rw other at among) it)
        | inr goes ↦ rw goes (filtered test xs n (rw other at among) it)
      ]
    ]

pub filtered-passes : (test : ℕ → Bool) (xs : List ℕ) (n : ℕ) → is_one_of n (filter test xs) ≡ true → test n ≡ true
filtered-passes test [] n among = absurd (both_ways _ refl among)
filtered-passes test (x ∷ xs) n among =
    elim (cases_Bool (test x)) [
      | inr goes ↦ filtered-passes test xs n (rw goes at among)
      | inl stays ↦ elim (cases_Bool (eqb x n)) [
        | inl same ↦ ap test (sym (eqb-true x n same)) ∙ stays
        | inr other ↦ filtered-passes test xs n (rw (stays, other) at among)
      ]
    ]

-- some member passes where one of them does
pub any-of : (test : ℕ → Bool) (xs : List ℕ) (n : ℕ) → is_one_of n xs ≡ true → test n ≡ true → list_any test xs ≡ true
any-of test [] n among it = among
any-of test (x ∷ xs) n among it =
    elim (cases_Bool (test x)) [
      | inl passes ↦ rw passes refl
      | inr fails ↦ elim (cases_Bool (eqb x n)) [
        | inl same ↦ absurd (both_ways _ fails (ap test (eqb-true x n same) ∙ it))
        | inr other ↦ rw fails (any-of test xs n (rw other at among) it)
      ]
    ]

pub passes-of : (test : ℕ → Bool) (xs : List ℕ) → list_any test xs ≡ true → (n : ℕ) × (is_one_of n xs ≡ true) × (test n ≡ true)
passes-of test [] any = absurd (both_ways _ refl any)
passes-of test (x ∷ xs) any =
    elim (cases_Bool (test x)) [
      | inl passes ↦ (x, rw (eq-eqb x x refl) refl, passes)
      | inr fails ↦ let more = passes-of test xs (rw fails at any) in (more.0, later more.0 more.1, more.2)
    ]
  where
    later : (n : ℕ) → is_one_of n xs ≡ true → is_one_of n (x ∷ xs) ≡ true
    later n among = elim (cases_Bool (eqb x n)) [ inl same ↦ rw same refl | inr other ↦ rw other among ]

-- what holds of each row holds of the one at an index
pub row-at : {X : Type 0} (P : X → Type 0) (xs : List X) (i : ℕ) (d : X) → i < length xs → AllRows P xs → P (get_or xs i d)
row-at P [] i d lt rows = absurd (omega (arith, lt))
row-at P (x ∷ xs) zero d lt rows = rows.0
row-at P (x ∷ xs) (suc i) d lt rows = row-at P xs i d (omega (arith, lt)) rows.1

pub row-of : (P : ℕ → Type 0) (xs : List ℕ) (n : ℕ) → AllRows P xs → is_one_of n xs ≡ true → P n
row-of P [] n rows among = absurd (both_ways _ refl among)
row-of P (x ∷ xs) n rows among =
    elim (cases_Bool (eqb x n)) [
      | inl same ↦ subst P (eqb-true x n same) rows.0
      | inr other ↦ row-of P xs n rows.1 (rw other at among)
    ]

pub rows-of : (P : ℕ → Type 0) (xs : List ℕ) → ((n : ℕ) → is_one_of n xs ≡ true → P n) → AllRows P xs
rows-of P [] all = tt
rows-of P (x ∷ xs) all = (all x (rw (eq-eqb x x refl) refl), rows-of P xs (λ n among. all n (elim (cases_Bool (eqb x n)) [ inl same ↦ rw same refl | inr other ↦ rw other among ])))

pub known-row : {A : Type 0} (o : Option A) → is_some o ≡ true → (x : A) × (o ≡ Some x)
known-row None h = absurd (both_ways _ refl h)
known-row (Some x) h = (x, refl)

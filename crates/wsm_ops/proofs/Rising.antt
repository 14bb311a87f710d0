-- Tables that are filled in the order of their keys.
use Rattle.wsm_ops.proofs.Common.{[], ℕ, ◌++◌, ◌+◌, ◌<◌, ◌∙◌, ◌∷◌, ◌≡◌, add-one, AllRows, ap, append_assoc, Ascends, Bool, cases_Bool, drop, drop-cons, get_or, inl, inr, key_lt, length, List, put_row, refl, rows-parts, subst, suc, sym}
use Rattle.wsm_ops.proofs.Common.{true}
use Rattle.std.proofs.Common.{filter}

-- the row that comes next goes to the end
pub put_row-next : {X : Type 0} (key : X → ℕ × ℕ) (xs ys : List X) (y : X) → Ascends key (xs ++ (y ∷ ys)) → put_row key y xs ≡ xs ++ (y ∷ [])
put_row-next key [] ys y h = refl
put_row-next key (x ∷ xs) ys y h =
    let below : key_lt (key x) (key y) ≡ true = (rows-parts _ xs (y ∷ ys) h.0).1.0 in
    rw below (ap (λ rows. x ∷ rows) (put_row-next key xs ys y h.1))

-- what is kept of rows with a fact
all-filter : {X : Type 0} (P : X → Type 0) (test : X → Bool) (xs : List X) → AllRows P xs → AllRows P (filter test xs)
all-filter P test [] h = tt
all-filter P test (x ∷ xs) h =
    elim (cases_Bool (test x)) [
      | inl kept ↦ rw kept (h.0, all-filter P test xs h.1)
      | inr dropped ↦ rw dropped (all-filter P test xs h.1)
    ]

-- what is kept of rows that ascend
pub Ascends-filter : {X : Type 0} (key : X → ℕ × ℕ) (test : X → Bool) (xs : List X) → Ascends key xs → Ascends key (filter test xs)
Ascends-filter key test [] h = tt
Ascends-filter key test (x ∷ xs) h =
    elim (cases_Bool (test x)) [
      | inl kept ↦ rw kept (all-filter _ test xs h.0, Ascends-filter key test xs h.1)
      | inr dropped ↦ rw dropped (Ascends-filter key test xs h.1)
    ]

-- the table of the first rows, with the next one
pub filled-next : {X : Type 0} (key : X → ℕ × ℕ) (rows table new : List X) (i : ℕ) (x : X) → x ≡ get_or rows i x → i < length rows → Ascends key rows →
    new ≡ put_row key x table → table ++ drop i rows ≡ rows → new ++ drop (i + 1) rows ≡ rows
filled-next key rows table new i x is_there lt ascends set_there filled =
    let split : drop i rows ≡ x ∷ drop (i + 1) rows = rw (add-one, drop-cons rows i x lt) (ap (λ y. y ∷ drop (suc i) rows) (sym is_there)) in
    let parts : table ++ (x ∷ drop (i + 1) rows) ≡ rows = ap (λ rest. table ++ rest) (sym split) ∙ filled in
    let at_end : put_row key x table ≡ table ++ (x ∷ []) = put_row-next key table (drop (i + 1) rows) x (subst (λ r. Ascends key r) (sym parts) ascends) in
    rw (set_there, at_end) (append_assoc table (x ∷ []) (drop (i + 1) rows) ∙ parts)

-- Items that are chosen one after another.
use Rattle.std.proofs.{Common.{◌≡◌, ℕ, ◌+◌, ◌<◌, Bool, List, [], ◌∷◌, ◌++◌, add-one, append_assoc, drop, drop-cons, filter, get_or, length, refl, ap, sym, ◌∙◌, inl, inr}, lemmas.Bool.cases_Bool}
use Rattle.std.specs.Prelude.{if◌then◌else◌}
use Rattle.wsm_items.specs.{WorkItems.items_in, declared.work_items.Item.Item}

filter-cons : (test : Item → Bool) (x : Item) (xs : List Item) → filter test (x ∷ xs) ≡ (if test x then x ∷ [] else []) ++ filter test xs
filter-cons test x xs = elim (cases_Bool (test x)) [ inl it ↦ rw it refl | inr other ↦ rw other refl ]

-- the next row is looked at
pub chosen-next : (test : Item → Bool) (rows : List (ℕ × Item)) (i : ℕ) (d : ℕ × Item) (chosen : Bool) (list list' all : List Item) → i < length rows → chosen ≡ test (get_or rows i d).1 →
    list' ≡ list ++ (if chosen then (get_or rows i d).1 ∷ [] else []) → list ++ filter test (items_in (drop i rows)) ≡ all → list' ++ filter test (items_in (drop (i + 1) rows)) ≡ all
chosen-next test rows i d chosen list list' all lt chosen_is list_is before =
    let x = (get_or rows i d).1 in
    let split : drop i rows ≡ get_or rows i d ∷ drop (i + 1) rows = rw add-one (drop-cons rows i d lt) in
    let front : list' ≡ list ++ (if test x then x ∷ [] else []) = list_is ∙ ap (λ b. list ++ (if b then x ∷ [] else [])) chosen_is in
    ap (λ l. l ++ filter test (items_in (drop (i + 1) rows))) front
    ∙ append_assoc list (if test x then x ∷ [] else []) (filter test (items_in (drop (i + 1) rows)))
    ∙ ap (λ l. list ++ l) (sym (filter-cons test x (items_in (drop (i + 1) rows))))
    ∙ ap (λ rs. list ++ filter test (items_in rs)) (sym split)
    ∙ before

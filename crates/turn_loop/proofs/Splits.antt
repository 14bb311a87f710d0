-- How bytes are split where more bytes come.
use Rattle.turn_loop.proofs.Common.{[], ℕ, ◌++◌, ◌∙◌, ◌∷◌, ◌≡◌, answers, ap, append-nil, append_assoc, Begins, behind, Bool, Bytes, false, Front, held_behind, if◌then◌else◌, IsItem, IsRest, List, None, refl, Rules, Some, split, split_from}
use Rattle.turn_loop.proofs.Common.{still_first, sym, take, Takes, true, worked}

-- what is split goes on where it stopped
pub split-append : (ends : Bytes → ℕ → Bool) (begun xs ys : Bytes)
    → split_from ends begun (xs ++ ys) ≡ behind (split_from ends begun xs).items (split_from ends (split_from ends begun xs).rest ys)
split-append ends begun [] ys = refl
split-append ends begun (x ∷ xs) ys = chosen (ends begun x) (split-append ends [] xs ys) (split-append ends (begun ++ x ∷ []) xs ys)
  where
    chosen : (b : Bool) → split_from ends [] (xs ++ ys) ≡ behind (split_from ends [] xs).items (split_from ends (split_from ends [] xs).rest ys)
        → split_from ends (begun ++ x ∷ []) (xs ++ ys) ≡ behind (split_from ends (begun ++ x ∷ []) xs).items (split_from ends (split_from ends (begun ++ x ∷ []) xs).rest ys)
        → (if b then behind ((begun ++ x ∷ []) ∷ []) (split_from ends [] (xs ++ ys)) else split_from ends (begun ++ x ∷ []) (xs ++ ys))
        ≡ behind (if b then behind ((begun ++ x ∷ []) ∷ []) (split_from ends [] xs) else split_from ends (begun ++ x ∷ []) xs).items
        (split_from ends (if b then behind ((begun ++ x ∷ []) ∷ []) (split_from ends [] xs) else split_from ends (begun ++ x ∷ []) xs).rest ys)
    chosen true here there = ap (behind ((begun ++ x ∷ []) ∷ [])) here
    chosen false here there = there

pub front-none : (ends : Bytes → ℕ → Bool) (bytes : Bytes) → Front ends bytes [] bytes
front-none ends bytes = record { splits = λ more. refl }

-- more bytes
pub front-more : (ends : Bytes → ℕ → Bool) (bytes : Bytes) (items : List Bytes) (rest new : Bytes) → Front ends bytes items rest → Front ends (bytes ++ new) items (rest ++ new)
front-more ends bytes items rest new front = record {
  splits = λ more.
      ap (split ends) (append_assoc bytes new more) ∙ front.splits (new ++ more)
      ∙ ap (λ b. behind items (split ends b)) (sym (append_assoc rest new more));
}

-- more items
pub front-then : (ends : Bytes → ℕ → Bool) (bytes : Bytes) (items : List Bytes) (middle : Bytes) (others : List Bytes) (rest : Bytes)
    → Front ends bytes items middle → Front ends middle others rest → Front ends bytes (items ++ others) rest
front-then ends bytes items middle others rest first second = record {
  splits = λ more.
      first.splits more ∙ ap (behind items) (second.splits more)
      ∙ ap (λ is. record { items = is; rest = (split ends (rest ++ more)).rest }) (sym (append_assoc items others (split ends (rest ++ more)).items));
}

-- the first item
pub front-item : (ends : Bytes → ℕ → Bool) (item rest : Bytes) → IsItem ends item → Front ends (item ++ rest) (item ∷ []) rest
front-item ends item rest is = record {
  splits = λ more.
      ap (split ends) (append_assoc item rest more) ∙ split-append ends [] item (rest ++ more)
      ∙ ap (λ s. behind s.items (split_from ends s.rest (rest ++ more))) is;
}

-- bytes that were taken, behind those with which an item has begun
pub took-all : (ends : Bytes → ℕ → Bool) (begun bytes : Bytes) → IsRest ends begun → Takes ends begun bytes None → IsRest ends (begun ++ bytes)
took-all ends begun bytes is takes = split-append ends [] begun bytes ∙ ap (λ s. behind s.items (split_from ends s.rest bytes)) is ∙ takes

pub took-item : (ends : Bytes → ℕ → Bool) (begun bytes : Bytes) (n : ℕ) → IsRest ends begun → Takes ends begun bytes (Some n) → IsItem ends (begun ++ take n bytes)
took-item ends begun bytes n is takes = split-append ends [] begun (take n bytes) ∙ ap (λ s. behind s.items (split_from ends s.rest (take n bytes))) is ∙ takes

-- all items, where the rest has none
pub front-all : (ends : Bytes → ℕ → Bool) (bytes : Bytes) (items : List Bytes) (rest : Bytes) → Front ends bytes items rest → IsRest ends rest
    → split ends bytes ≡ record { items = items; rest = rest }
front-all ends bytes items rest front is =
    ap (split ends) (sym (append-nil bytes)) ∙ front.splits []
    ∙ ap (λ b. behind items (split ends b)) (append-nil rest) ∙ ap (behind items) is
    ∙ ap (λ is. record { items = is; rest = rest }) (append-nil items)

pub front-begins : (ends : Bytes → ℕ → Bool) (bytes : Bytes) (items : List Bytes) (rest : Bytes) → Front ends bytes items rest → Begins items (split ends bytes).items
front-begins ends bytes items rest front =
    ((split ends (rest ++ [])).items, ap (λ s. s.items) (sym (front.splits [])) ∙ ap (λ b. (split ends b).items) (append-nil bytes))

-- ---- what is held, and what is answered

pub worked-append : (rules : Rules) (ps xs ys : List Bytes) → worked rules ps (xs ++ ys) ≡ worked rules (worked rules ps xs) ys
worked-append rules ps [] ys = refl
worked-append rules ps (x ∷ xs) ys = worked-append rules (held_behind rules ps x) xs ys

-- behind an item none is the first
pub never-first : (items : List Bytes) → still_first false items ≡ false
never-first [] = refl
never-first (item ∷ items) = refl

pub still-first : (first : Bool) (xs ys : List Bytes) → still_first (still_first first xs) ys ≡ still_first first (xs ++ ys)
still-first first [] ys = refl
still-first first (x ∷ xs) ys = never-first ys

pub no-more-first : (first : Bool) (items : List Bytes) (item : Bytes) → still_first first (items ++ item ∷ []) ≡ false
no-more-first first [] item = refl
no-more-first first (x ∷ items) item = refl

pub answers-append : (rules : Rules) (first : Bool) (ps xs ys : List Bytes) → answers rules first ps (xs ++ ys) ≡ answers rules first ps xs ++ answers rules (still_first first xs) (worked rules ps xs) ys
answers-append rules first ps [] ys = refl
answers-append rules first ps (x ∷ xs) ys =
    let next = held_behind rules ps x in
    ap (λ t. rules.answer first ps x ++ t) (answers-append rules false next xs ys ∙ ap (λ f. answers rules false next xs ++ answers rules f (worked rules next xs) ys) (never-first xs))
    ∙ sym (append_assoc (rules.answer first ps x) (answers rules false next xs) (answers rules false (worked rules next xs) ys))

pub begins-self : {A : Type 0} (xs : List A) → Begins xs xs
begins-self xs = ([], append-nil xs)

pub begins-trans : {A : Type 0} (xs ys zs : List A) → Begins xs ys → Begins ys zs → Begins xs zs
begins-trans xs ys zs (more, is) (others, all) = (more ++ others, sym (append_assoc xs more others) ∙ ap (λ l. l ++ others) is ∙ all)

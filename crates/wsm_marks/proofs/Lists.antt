-- Facts about numbers and lists.
use Rattle.wsm_marks.proofs.Common.{[], ℕ, ◌++◌, ◌||◌, ◌∙◌, ◌∷◌, ◌≡◌, ◌⊎◌, all_rows, AllRows, ap, arith, Bool, both_rows, eq-eqb, eqb, eqb-false, eqb-true, false, fold, inl, inr, is_one_of, le-ltb, List, lt-ltb, map, nat_lt, ne_eqb}
use Rattle.wsm_marks.proofs.Common.{or-false, or_cases, or_left, or_right, refl, suc, sym, true}
use Rattle.wsm_schema.proofs.DocumentOrder.{one_of-append}

-- no number is below itself
pub not_before_itself : (p : ℕ) → nat_lt p p ≡ false
not_before_itself p = le-ltb p p (omega arith)

-- each is below the next
pub lt-suc_self : (p : ℕ) → nat_lt p (suc p) ≡ true
lt-suc_self p = lt-ltb p (suc p) (omega arith)

-- two numbers that are not one, the other way round
pub eqb-swap : (a b : ℕ) → eqb a b ≡ false → eqb b a ≡ false
eqb-swap a b h = ne_eqb b a (λ e. eqb-false a b h (sym e))

-- a test or one that fails
pub or_none : (a b : Bool) → b ≡ false → (a || b) ≡ a
or_none a b h = ap (λ x. a || x) h ∙ or-false a

-- two maps in a row are one
pub map-map : {X Y Z : Type 0} (g : Y → Z) (h : X → Y) (xs : List X) → map (λ x. g (h x)) xs ≡ map g (map h xs)
map-map g h [] = refl
map-map g h (x ∷ xs) = ap (λ ys. g (h x) ∷ ys) (map-map g h xs)

-- two folds whose steps agree on each row
pub fold-same : {A B : Type 0} (P : B → Type 0) (h k : A → B → A) → ((a : A) (b : B) → P b → h a b ≡ k a b) → (bs : List B) → AllRows P bs → (a : A) → fold h a bs ≡ fold k a bs
fold-same P h k same [] all a = refl
fold-same P h k same (b ∷ bs) all a = ap (λ x. fold h x bs) (same a b all.0) ∙ fold-same P h k same bs all.1 (k a b)

-- ---- members
pub one_of-last : (k : ℕ) (xs : List ℕ) (n : ℕ) → is_one_of k (xs ++ n ∷ []) ≡ true → (is_one_of k xs ≡ true) ⊎ (n ≡ k)
one_of-last k xs n h =
    elim (or_cases (is_one_of k xs) (is_one_of k (n ∷ [])) (sym (one_of-append k xs (n ∷ [])) ∙ h)) [
      | inl there ↦ inl there
      | inr last ↦ inr (eqb-true n k (sym (or-false (eqb n k)) ∙ last))
    ]

-- a member of the front is one of the whole
pub one_of-front : (k : ℕ) (xs ys : List ℕ) → is_one_of k xs ≡ true → is_one_of k (xs ++ ys) ≡ true
one_of-front k xs ys h = one_of-append k xs ys ∙ or_left (is_one_of k xs) (is_one_of k ys) h

-- what stands between two lists is a member
pub one_of-middle : (n : ℕ) (xs ys : List ℕ) → is_one_of n (xs ++ (n ∷ ys)) ≡ true
one_of-middle n xs ys = one_of-append n xs (n ∷ ys) ∙ or_right (is_one_of n xs) _ (or_left (eqb n n) (is_one_of n ys) (eq-eqb n n refl))

-- ---- each row
pub rows-last : {X : Type 0} (P : X → Type 0) (xs : List X) (x : X) → AllRows P xs → P x → AllRows P (xs ++ x ∷ [])
rows-last P [] x h it = (it, tt)
rows-last P (y ∷ ys) x h it = (h.0, rows-last P ys x h.1 it)

-- a relation between each row of one list and each of another
pub rows-swap : {X Y : Type 0} (R : X → Y → Type 0) (xs : List X) (ys : List Y) → AllRows (λ x. AllRows (R x) ys) xs → AllRows (λ y. AllRows (λ x. R x y) xs) ys
rows-swap R [] ys h = all_rows (λ y. Unit {0}) (λ y. tt) ys
rows-swap R (x ∷ xs) ys h = both_rows (R x) (λ y. AllRows (λ z. R z y) xs) (λ y. AllRows (λ z. R z y) (x ∷ xs)) (λ y a b. (a, b)) ys h.0 (rows-swap R xs ys h.1)

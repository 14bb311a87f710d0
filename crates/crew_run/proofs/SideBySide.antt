-- Lists side by side, item by item.
use Rattle.crew_run.proofs.Common.{[], ℕ, ◌++◌, ◌+◌, ◌<◌, ◌∙◌, ◌∷◌, ◌≡◌, AllRows, AllZip, AllZip-long, ap, arith, at_case, beside, CaseId, get_or, in_row, length, List, map, refl, row_of_case, same_Some, slice_get, Some, subst, suc}
use Rattle.crew_run.proofs.Common.{sym, take, there-as, zero, zip_with}
use Rattle.turn_rows.proofs.Lists.{take_item}

-- what holds at each place holds of all
pub all-of : {A : Type 0} (P : A → Type 0) (xs : List A) → ((i : ℕ) (x : A) → slice_get xs i ≡ Some x → P x) → AllRows P xs
all-of P [] each = tt
all-of P (x ∷ xs) each = (each 0 x refl, all-of P xs (λ i. each (suc i)))

-- one item more of a list
pub took-at : {A : Type 0} (items xs : List A) (i : ℕ) (x : A) → items ≡ xs → i < length items → x ≡ get_or items i x → take (i + 1) xs ≡ take i xs ++ x ∷ []
took-at items xs i x same lt at = subst (λ (ys : List _). take (i + 1) ys ≡ take i ys ++ x ∷ []) same (take_item items i x lt at)

-- one thing, and those behind it
abbrev first_of : {C : Type 0} → C → (ℕ → C) → ℕ → C
first_of c g zero = c
first_of c g (suc i) = g i

-- where there is something for the items at each place, it can be told by the place alone
pub chosen : {A C : Type 0} (c : C) (P : ℕ → C → A → A → Type 0) (xs ys : List A) → length ys ≡ length xs → ((i : ℕ) (x y : A) → slice_get xs i ≡ Some x → slice_get ys i ≡ Some y → (d : C) × P i d x y)
    → (g : ℕ → C) × ((i : ℕ) (x y : A) → slice_get xs i ≡ Some x → slice_get ys i ≡ Some y → P i (g i) x y)
chosen c P [] ys many some = ((λ i. c), (λ i x y at_x at_y. absurd (cc (at_x))))
chosen c P (x ∷ xs) [] many some = absurd (omega arith)
chosen {A} {C} c P (x ∷ xs) (y ∷ ys) many some =
    let (d, here) = some 0 x y refl refl in
    let (g, rest) = chosen c (λ i. P (suc i)) xs ys (omega arith) (λ i. some (suc i)) in
    (first_of d g, each d g here rest)
  where
    each : (d : C) (g : ℕ → C) → P 0 d x y → ((i : ℕ) (u v : A) → slice_get xs i ≡ Some u → slice_get ys i ≡ Some v → P (suc i) (g i) u v)
        → (i : ℕ) (u v : A) → slice_get (x ∷ xs) i ≡ Some u → slice_get (y ∷ ys) i ≡ Some v → P i (first_of d g i) u v
    each d g here rest zero u v at_u at_v = subst (λ a. P 0 d a v) (same_Some x u at_u) (subst (P 0 d x) (same_Some y v at_v) here)
    each d g here rest (suc i) u v at_u at_v = rest i u v at_u at_v

-- what holds at each place of two lists that are as long
pub zip-from : {A B : Type 0} (R : A → B → Type 0) (xs : List A) (ys : List B) → length ys ≡ length xs → ((i : ℕ) (x : A) (y : B) → slice_get xs i ≡ Some x → slice_get ys i ≡ Some y → R x y) → AllZip R xs ys
zip-from R [] [] even each = tt
zip-from R [] (y ∷ ys) even each = absurd (omega (arith, even))
zip-from R (x ∷ xs) [] even each = absurd (omega (arith, even))
zip-from R (x ∷ xs) (y ∷ ys) even each = (each 0 x y refl refl, zip-from R xs ys (omega (arith, even)) (λ i. each (suc i)))

module _ {A B : Type 0} (R : A → B → Type 0) where
  -- items at one place
  pub zip-both : (xs : List A) (ys : List B) → AllZip R xs ys → (i : ℕ) (x : A) (y : B) → slice_get xs i ≡ Some x → slice_get ys i ≡ Some y → R x y
  zip-both xs ys z i x y at_x at_y =
      let found = beside R xs ys i x z at_x in
      subst (R x) (same_Some found.0 y (sym found.1 ∙ at_y)) found.2

  pub zip-second : (P : B → Type 0) → ((x : A) (y : B) → R x y → P y) → (xs : List A) (ys : List B) → AllZip R xs ys → AllRows P ys
  zip-second P so xs ys z = all-of P ys (λ i y at. let (x, at_x) = there-as ys xs i y (sym (AllZip-long R xs ys z)) at in so x y (zip-both xs ys z i x y at_x at))

  pub zip-so : (Q : A → B → Type 0) → ((x : A) (y : B) → R x y → Q x y) → (xs : List A) (ys : List B) → AllZip R xs ys → AllZip Q xs ys
  zip-so Q so xs ys z = zip-from Q xs ys (AllZip-long R xs ys z) (λ i x y at_x at_y. so x y (zip-both xs ys z i x y at_x at_y))

  pub zip-back : (Q : B → A → Type 0) → ((x : A) (y : B) → R x y → Q y x) → (xs : List A) (ys : List B) → AllZip R xs ys → AllZip Q ys xs
  zip-back Q so xs ys z = zip-from Q ys xs (sym (AllZip-long R xs ys z)) (λ i y x at_y at_x. so x y (zip-both xs ys z i x y at_x at_y))

  -- rows side by side are as long
  pub zip-rows : (xs : List (List A)) (ys : List (List B)) → AllZip (AllZip R) xs ys → map length ys ≡ map length xs
  zip-rows [] [] z = refl
  zip-rows [] (y ∷ ys) z = absurd z
  zip-rows (x ∷ xs) [] z = absurd z
  zip-rows (x ∷ xs) (y ∷ ys) (r, z) = cc (AllZip-long R x y r, zip-rows xs ys z)

  -- what stands at the place of a case, in rows side by side
  pub beside-case : (xs : List (List A)) (ys : List (List B)) (c : CaseId) (x : A) → AllZip (AllZip R) xs ys → at_case xs c ≡ Some x → (y : B) × (at_case ys c ≡ Some y) × R x y
  beside-case xs ys c x z is =
      let (row, at_row, at_x) = row_of_case xs c x is in
      let (other, at_other, rs) = beside (AllZip R) xs ys c.type_no row z at_row in
      let (y, at_y, r) = beside R row other c.place x rs at_x in
      (y, ap (in_row c.place) at_other ∙ at_y, r)

-- what two relations give together
pub zip-then : {A B C : Type 0} (R : A → B → Type 0) (Q : B → C → Type 0) (P : A → C → Type 0) → ((x : A) (y : B) (z : C) → R x y → Q y z → P x z)
    → (xs : List A) (ys : List B) (zs : List C) → AllZip R xs ys → AllZip Q ys zs → AllZip P xs zs
zip-then R Q P both xs ys zs r q =
    zip-from P xs zs (AllZip-long Q ys zs q ∙ AllZip-long R xs ys r) (λ i x z at_x at_z. let (y, at_y, here) = beside R xs ys i x r at_x in both x y z here (zip-both Q ys zs q i y z at_y at_z))

pub zip-self : {A : Type 0} (R : A → A → Type 0) → ((x : A) → R x x) → (xs : List A) → AllZip R xs xs
zip-self R self [] = tt
zip-self R self (x ∷ xs) = (self x, zip-self R self xs)

-- what was made of two lists, item by item
module _ {A : Type 0} (f : A → A → A) where
  pub made-first : (R P : A → A → Type 0) → ((x y : A) → R x (f x y) → P x (f x y)) → (xs ys : List A) → AllZip R xs (zip_with f xs ys) → AllZip P xs (zip_with f xs ys)
  made-first R P so [] ys z = tt
  made-first R P so (x ∷ xs) [] z = absurd z
  made-first R P so (x ∷ xs) (y ∷ ys) (r, z) = (so x y r, made-first R P so xs ys z)

  pub made-second : (g : A → A → A) (R P : A → A → Type 0) → ((x y : A) → R y (f x y) → P y (g x y)) → (xs ys : List A) → AllZip R ys (zip_with f xs ys) → AllZip P ys (zip_with g xs ys)
  made-second g R P so [] [] z = tt
  made-second g R P so [] (y ∷ ys) z = absurd z
  made-second g R P so (x ∷ xs) [] z = tt
  made-second g R P so (x ∷ xs) (y ∷ ys) (r, z) = (so x y r, made-second g R P so xs ys z)

  pub made-beside : (g : A → A → A) (P : A → A → Type 0) → ((x y : A) → P (f x y) (g x y)) → (xs ys : List A) → AllZip P (zip_with f xs ys) (zip_with g xs ys)
  made-beside g P both [] ys = tt
  made-beside g P both (x ∷ xs) [] = tt
  made-beside g P both (x ∷ xs) (y ∷ ys) = (both x y, made-beside g P both xs ys)

  pub made-same : (R : A → A → Type 0) → ((x y : A) → R y x → f x y ≡ x) → (xs ys : List A) → AllZip R ys xs → zip_with f xs ys ≡ xs
  made-same R same [] ys z = refl
  made-same R same (x ∷ xs) [] z = absurd z
  made-same R same (x ∷ xs) (y ∷ ys) (r, z) = cc (same x y r, made-same R same xs ys z)

  pub made-at : (xs ys : List A) (i : ℕ) (x y : A) → slice_get xs i ≡ Some x → slice_get ys i ≡ Some y → slice_get (zip_with f xs ys) i ≡ Some (f x y)
  made-at [] ys i x y a b = absurd (cc (a))
  made-at (v ∷ xs) [] i x y a b = absurd (cc (b))
  made-at (v ∷ xs) (w ∷ ys) zero x y a b = cc (a, b)
  made-at (v ∷ xs) (w ∷ ys) (suc i) x y a b = made-at xs ys i x y a b

  pub made-long : (xs ys : List A) → length ys ≡ length xs → length (zip_with f xs ys) ≡ length xs
  made-long [] ys e = refl
  made-long (x ∷ xs) [] e = absurd (omega arith)
  made-long (x ∷ xs) (y ∷ ys) e = ap suc (made-long xs ys (omega arith))

module _ {A : Type 0} (f : A → A → A) where
  pub made-rows : (xs ys : List (List A)) → map length ys ≡ map length xs → map length (zip_with (zip_with f) xs ys) ≡ map length xs
  made-rows [] ys e = refl
  made-rows (x ∷ xs) [] e = absurd (cc (e))
  made-rows (x ∷ xs) (y ∷ ys) e = cc (made-long f x y (cc (e)), made-rows xs ys (cc (e)))

  pub made-at_case : (xs ys : List (List A)) (c : CaseId) (x y : A) → at_case xs c ≡ Some x → at_case ys c ≡ Some y → at_case (zip_with (zip_with f) xs ys) c ≡ Some (f x y)
  made-at_case xs ys c x y a b =
      let (r, at_r, at_x) = row_of_case xs c x a in
      let (s, at_s, at_y) = row_of_case ys c y b in
      ap (in_row c.place) (made-at (zip_with f) xs ys c.type_no r s at_r at_s) ∙ made-at f r s c.place x y at_x at_y

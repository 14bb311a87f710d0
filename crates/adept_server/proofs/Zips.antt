-- Lists and rows that were made of others, place by place.
use Rattle.adept_server.proofs.Common.{[], ℕ, ◌||◌, ◌∙◌, ◌∷◌, ◌≡◌, ◌⊎◌, All, All-cons, All-nil, All-slice_get, AllZip, ap, at_case, Bool, CaseId, false, in_row, inl, inr, List, map, None, Option, refl, slice_get, Some, subst, suc, true}
use Rattle.adept_server.proofs.Common.{zero, zip_with}

module _ {X : Type 0} where
  -- where a case is there, its type has a row
  pub row_of_case : (rows : List (List X)) (c : CaseId) (x : X) → at_case rows c ≡ Some x → (row : List X) × (slice_get rows c.type_no ≡ Some row) × (slice_get row c.place ≡ Some x)
  row_of_case rows c x is = go (slice_get rows c.type_no) refl is
    where
      go : (o : Option (List X)) → slice_get rows c.type_no ≡ o → in_row c.place o ≡ Some x → (row : List X) × (slice_get rows c.type_no ≡ Some row) × (slice_get row c.place ≡ Some x)
      go None there is = absurd (cc)
      go (Some row) there is = (row, there, is)

  -- what holds of all rows holds of a case
  pub all_of_case : (P : X → Type 0) (rows : List (List X)) (c : CaseId) (x : X) → All (All P) rows → at_case rows c ≡ Some x → P x
  all_of_case P rows c x all is = let r = row_of_case rows c x is in All-slice_get P r.0 c.place x (All-slice_get (All P) rows c.type_no r.0 all r.1) r.2

module _ {A B : Type 0} (f : A → B) where
  pub map_there : (xs : List A) (i : ℕ) (y : B) → slice_get (map f xs) i ≡ Some y → (x : A) × (slice_get xs i ≡ Some x) × (y ≡ f x)
  map_there [] i y is = absurd (cc)
  map_there (x ∷ xs) zero y is = (x, refl, cc)
  map_there (x ∷ xs) (suc i) y is = map_there xs i y is

pub map_of_case : {A B : Type 0} (f : A → B) (rows : List (List A)) (c : CaseId) (y : B) → at_case (map (map f) rows) c ≡ Some y → (x : A) × (at_case rows c ≡ Some x) × (y ≡ f x)
map_of_case f rows c y is =
    let r = row_of_case (map (map f) rows) c y is in
    let row = map_there (map f) rows c.type_no r.0 r.1 in
    let item = map_there f row.0 c.place y (subst (λ xs. slice_get xs c.place ≡ Some y) row.2 r.2) in
    (item.0, ap (in_row c.place) row.1 ∙ item.1, item.2)

module _ {A B C : Type 0} (f : A → B → C) where
  pub zip_there : (xs : List A) (ys : List B) (i : ℕ) (z : C) → slice_get (zip_with f xs ys) i ≡ Some z → (x : A) × (y : B) × (slice_get xs i ≡ Some x) × (slice_get ys i ≡ Some y) × (z ≡ f x y)
  zip_there [] ys i z is = absurd (cc)
  zip_there (x ∷ xs) [] i z is = absurd (cc)
  zip_there (x ∷ xs) (y ∷ ys) zero z is = (x, y, refl, refl, cc)
  zip_there (x ∷ xs) (y ∷ ys) (suc i) z is = zip_there xs ys i z is

pub zip_of_case : {A B C : Type 0} (f : A → B → C) (xs : List (List A)) (ys : List (List B)) (c : CaseId) (z : C) → at_case (zip_with (zip_with f) xs ys) c ≡ Some z → (x : A) × (y : B) × (at_case xs c ≡ Some x) × (at_case ys c ≡ Some y) × (z ≡ f x y)
zip_of_case f xs ys c z is =
    let r = row_of_case (zip_with (zip_with f) xs ys) c z is in
    let row = zip_there (zip_with f) xs ys c.type_no r.0 r.1 in
    let item = zip_there f row.0 row.1 c.place z (subst (λ zs. slice_get zs c.place ≡ Some z) row.4 r.2) in
    (item.0, item.1, ap (in_row c.place) row.2 ∙ item.2, ap (in_row c.place) row.3 ∙ item.3, item.4)

module _ {A B : Type 0} (R : A → B → Type 0) where
  -- what stands beside an item
  pub beside : (xs : List A) (ys : List B) (i : ℕ) (x : A) → AllZip R xs ys → slice_get xs i ≡ Some x → (y : B) × (slice_get ys i ≡ Some y) × R x y
  beside [] ys i x all is = absurd (cc)
  beside (a ∷ xs) [] i x all is = absurd all
  beside (a ∷ xs) (b ∷ ys) zero x all is = let same : a ≡ x = cc (is) in (b, refl, subst (λ u. R u b) same all.0)
  beside (a ∷ xs) (b ∷ ys) (suc i) x all is = beside xs ys i x all.1 is

pub either_raised : (a b : Bool) → (a || b) ≡ true → (a ≡ true) ⊎ (b ≡ true)
either_raised true b is = inl refl
either_raised false b is = inr is

module _ {X : Type 0} (P : X → Type 0) where
  -- what holds at each place holds of all
  pub all_from_places : (xs : List X) → ((i : ℕ) (x : X) → slice_get xs i ≡ Some x → P x) → All P xs
  all_from_places [] each = All-nil P
  all_from_places (x ∷ xs) each = All-cons P x xs (each 0 x refl) (all_from_places xs (λ i y is. each (suc i) y is))

-- and what holds of each case
pub all_from_cases : {X : Type 0} (P : X → Type 0) (rows : List (List X)) → ((c : CaseId) (x : X) → at_case rows c ≡ Some x → P x) → All (All P) rows
all_from_cases P rows each =
    all_from_places (All P) rows (λ t row is. all_from_places P row (λ i x there.
    let id : CaseId = record { type_no = t; place = i } in
    each id x (ap (in_row i) is ∙ there)))

-- what was made of equal lists
pub zip_of : {A B C : Type 0} (f : A → B → C) {xs us : List A} {ys vs : List B} {zs ws : List C} → zs ≡ zip_with f us vs → us ≡ xs → vs ≡ ys → ws ≡ zs → ws ≡ zip_with f xs ys
zip_of f {xs = xs} {vs = vs} made first second is = is ∙ (made ∙ (ap (λ us. zip_with f us vs) first ∙ ap (zip_with f xs) second))

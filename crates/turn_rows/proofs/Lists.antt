-- Lists of which the first places are done.
use Rattle.turn_rows.proofs.Common.{[], ℕ, ◌++◌, ◌+◌, ◌<◌, ◌∙◌, ◌∷◌, ◌≡◌, All, ap, append_assoc, arith, drop, drop-drop, drop-set-lt, get_or, get_or-drop, get_or-map, length, length-map, List, map, map_push, refl, set, subst, sym, take}
use Rattle.turn_rows.proofs.Common.{take_more, take_more_set, zip_with}

module _ {A : Type 0} where
  -- one more item of a list
  pub take_item : (xs : List A) (n : ℕ) (x : A) → n < length xs → x ≡ get_or xs n x → take (n + 1) xs ≡ take n xs ++ x ∷ []
  take_item xs n x lt e = take_more xs n x lt ∙ ap (λ y. take n xs ++ y ∷ []) (sym e)

  -- the first item of what is left
  pub next_item : (n : ℕ) (xs zs : List A) (x : A) (ys : List A) → drop n xs ≡ zs → zs ≡ x ∷ ys → (x ≡ get_or xs n x) × (drop (n + 1) xs ≡ ys)
  next_item n xs zs x ys left is =
      let here : n + 0 ≡ n = omega arith in
      let e : drop n xs ≡ x ∷ ys = left ∙ is in (
        sym (ap (λ us. get_or us 0 x) e) ∙ (get_or-drop n xs 0 x ∙ ap (λ k. get_or xs k x) here),
        sym (drop-drop 1 n xs) ∙ ap (λ us. drop 1 us) e,
      )

  -- from place n on, ys is as xs
  abbrev pub IsSameFrom : ℕ → List A → List A → Type 0
  IsSameFrom n xs ys = drop n ys ≡ drop n xs

  pub same_at : (n : ℕ) (xs ys : List A) (d : A) → IsSameFrom n xs ys → get_or ys n d ≡ get_or xs n d
  same_at n xs ys d same =
      let here : n + 0 ≡ n = omega arith in
      let first : get_or (drop n ys) 0 d ≡ get_or (drop n xs) 0 d = ap (λ zs. get_or zs 0 d) same in
      ap (λ k. get_or ys k d) (sym here) ∙ (sym (get_or-drop n ys 0 d) ∙ (first ∙ (get_or-drop n xs 0 d ∙ ap (λ k. get_or xs k d) here)))

  pub same_from_next : (n : ℕ) (xs ys : List A) (y : A) → IsSameFrom n xs ys → IsSameFrom (n + 1) xs (set ys n y)
  same_from_next n xs ys y same =
      drop-set-lt (n + 1) ys n y (omega arith) ∙ (sym (drop-drop 1 n ys) ∙ (ap (λ zs. drop 1 zs) same ∙ drop-drop 1 n xs))

  pub same_from_after : (n : ℕ) (xs ys : List A) → IsSameFrom n xs ys → IsSameFrom (n + 1) xs ys
  same_from_after n xs ys same = sym (drop-drop 1 n ys) ∙ (ap (λ zs. drop 1 zs) same ∙ drop-drop 1 n xs)

  -- what was appended, with one item more
  pub appended_more : (xs ys zs us : List A) (y : A) → zs ≡ xs ++ ys → us ≡ zs ++ y ∷ [] → us ≡ xs ++ (ys ++ y ∷ [])
  appended_more xs ys zs us y e more = more ∙ (ap (λ z. z ++ y ∷ []) e ∙ append_assoc xs ys (y ∷ []))

  module _ {B : Type 0} (f : A → B) where
    -- the images of one item more, which was put there
    pub map-take_put : (xs : List A) (n : ℕ) (y : A) → n < length xs → map f (take (n + 1) (set xs n y)) ≡ map f (take n xs) ++ f y ∷ []
    map-take_put xs n y lt = ap (map f) (take_more_set xs n y lt) ∙ map_push f (take n xs) y

    -- what holds of all images holds of that of an item which is as before
    pub All-same_at : (P : B → Type 0) (n : ℕ) (xs ys : List A) (d : A) → All P (map f xs) → IsSameFrom n xs ys → n < length xs → P (f (get_or ys n d))
    All-same_at P n xs ys d all same lt =
        subst P (get_or-map f xs n d (f d) lt ∙ ap f (sym (same_at n xs ys d same))) (all n (f d) (subst (λ k. n < k) (sym (length-map xs f)) lt))

module _ {A B C : Type 0} (f : A → B → C) where
  pub zip_with-push : (xs : List A) (ys : List B) (x : A) (y : B) → length ys ≡ length xs → zip_with f (xs ++ x ∷ []) (ys ++ y ∷ []) ≡ zip_with f xs ys ++ f x y ∷ []
  zip_with-push [] [] x y e = refl
  zip_with-push [] (b ∷ ys) x y e = absurd (omega arith)
  zip_with-push (a ∷ xs) [] x y e = absurd (omega arith)
  zip_with-push (a ∷ xs) (b ∷ ys) x y e = ap (λ zs. f a b ∷ zs) (zip_with-push xs ys x y (omega arith))

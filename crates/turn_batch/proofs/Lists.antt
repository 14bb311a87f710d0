-- Lists of which the first places are done.
use Rattle.std.proofs.{Common.{◌≡◌, ℕ, ◌+◌, List, [], ◌∷◌, ◌++◌, drop, get_or, set, sym, ap, ◌∙◌, append_assoc, arith}, lemmas.List.{get_or-drop, drop-drop, drop-set-lt}}

module _ {A : Type 0} where
  -- from place n on, ys is as xs
  abbrev pub IsSameFrom : ℕ → List A → List A → Type 0
  IsSameFrom n xs ys = drop n ys ≡ drop n xs

  pub same_at : (n : ℕ) (xs ys : List A) (d : A) → IsSameFrom n xs ys → get_or ys n d ≡ get_or xs n d
  same_at n xs ys d same =
      let here : n + 0 ≡ n = omega arith in
      let first : get_or (drop n ys) 0 d ≡ get_or (drop n xs) 0 d = ap (λ zs. get_or zs 0 d) same in
      ap (λ k. get_or ys k d) (sym here) ∙ (sym (get_or-drop n ys 0 d) ∙ (first ∙ (get_or-drop n xs 0 d ∙ ap (λ k. get_or xs k d) here)))

  pub same_from_next : (n : ℕ) (xs ys : List A) (y : A) → IsSameFrom n xs ys → IsSameFrom (n + 1) xs (set ys n y)
  same_from_next n xs ys y same =
      drop-set-lt (n + 1) ys n y (omega arith) ∙ (sym (drop-drop 1 n ys) ∙ (ap (λ zs. drop 1 zs) same ∙ drop-drop 1 n xs))

  -- what was appended, with one item more
  pub appended_more : (xs ys zs us : List A) (y : A) → zs ≡ xs ++ ys → us ≡ zs ++ y ∷ [] → us ≡ xs ++ (ys ++ y ∷ [])
  appended_more xs ys zs us y e more = more ∙ (ap (λ z. z ++ y ∷ []) e ∙ append_assoc xs ys (y ∷ []))

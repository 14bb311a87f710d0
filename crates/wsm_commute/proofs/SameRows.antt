-- Ascending rows are told by what stands at each key.
use Rattle.wsm_commute.proofs.Common.{[], ℕ, ◌∙◌, ◌∷◌, ◌≡◌, AllRows, ap, Ascends, Bool, eq_from, eq_means, false, if◌then◌else◌, key_eq, key_lt, List, lt_not_eq, lt_other, lt_trans, None, Option, refl, row_at, Some, subst, sym, true}
use Rattle.wsm_lists.proofs.Lists.{all-rows-map}

-- a key above another is not it
pub differs : (a b : ℕ × ℕ) → key_lt a b ≡ true → key_eq b a ≡ false
differs a b less = go (key_eq b a) refl
  where
    go : (t : Bool) → key_eq b a ≡ t → key_eq b a ≡ false
    go true e = absurd (let same = eq_means b a e in let is = eq_from a b (sym same.0) (sym same.1) in let no = lt_not_eq a b less in cc)
    go false e = e

module _ {X : Type 0} (key : X → ℕ × ℕ) where
  -- below all keys nothing stands
  pub none_below : (k : ℕ × ℕ) (xs : List X) → AllRows (λ x. key_lt k (key x) ≡ true) xs → row_at key k xs ≡ None
  none_below k [] above = refl
  none_below k (x ∷ xs) above = ap (λ t. if t then Some x else row_at key k xs) (differs k (key x) above.0) ∙ none_below k xs above.1

  none_before : (k : ℕ × ℕ) (y : X) (ys : List X) → key_lt k (key y) ≡ true → AllRows (λ z. key_lt (key y) (key z) ≡ true) ys → row_at key k (y ∷ ys) ≡ None
  none_before k y ys less above = none_below k (y ∷ ys) (less, all-rows-map (λ z. key_lt (key y) (key z) ≡ true) (λ z. key_lt k (key z) ≡ true) (λ z e. lt_trans k (key y) (key z) less e) ys above)

  own_key : (x : X) (xs : List X) → row_at key (key x) (x ∷ xs) ≡ Some x
  own_key x xs = ap (λ t. if t then Some x else row_at key (key x) xs) (eq_from (key x) (key x) refl refl)

  not_none : (x : X) (o : Option X) → o ≡ Some x → o ≡ None → ⊥
  not_none x o is none = absurd (let e = sym is ∙ none in cc)

  -- two lists with equal heads have equal tails at each key
  tails : (x : X) (xs ys : List X) → AllRows (λ z. key_lt (key x) (key z) ≡ true) xs → AllRows (λ z. key_lt (key x) (key z) ≡ true) ys
      → ((k : ℕ × ℕ) → row_at key k (x ∷ xs) ≡ row_at key k (x ∷ ys)) → (k : ℕ × ℕ) → row_at key k xs ≡ row_at key k ys
  tails x xs ys above over same k = go (key_eq (key x) k) refl
    where
      go : (t : Bool) → key_eq (key x) k ≡ t → row_at key k xs ≡ row_at key k ys
      go false e = sym (ap (λ t. if t then Some x else row_at key k xs) e) ∙ same k ∙ ap (λ t. if t then Some x else row_at key k ys) e
      go true e =
          let is : key x ≡ k = pair_is (key x) k (eq_means (key x) k e) in
          ap (λ q. row_at key q xs) (sym is) ∙ none_below (key x) xs above ∙ sym (none_below (key x) ys over) ∙ ap (λ q. row_at key q ys) is
        where
          pair_is : (a b : ℕ × ℕ) → (a.0 ≡ b.0) × (a.1 ≡ b.1) → a ≡ b
          pair_is a b h = ap (λ u. (u, a.1)) h.0 ∙ ap (λ w. (b.0, w)) h.1

  heads : (x y : X) (xs ys : List X) → Ascends key (x ∷ xs) → Ascends key (y ∷ ys) → ((k : ℕ × ℕ) → row_at key k (x ∷ xs) ≡ row_at key k (y ∷ ys))
      → (t u : Bool) → key_lt (key x) (key y) ≡ t → key_eq (key x) (key y) ≡ u → x ≡ y
  heads x y xs ys up also same true u less eq = absurd (not_none x (row_at key (key x) (x ∷ xs)) (own_key x xs) (same (key x) ∙ none_before (key x) y ys less also.0))
  heads x y xs ys up also same false false less eq =
      absurd (not_none y (row_at key (key y) (y ∷ ys)) (own_key y ys) (sym (same (key y)) ∙ none_before (key y) x xs (lt_other (key x) (key y) less eq) up.0))
  heads x y xs ys up also same false true less eq =
      let is = eq_means (key x) (key y) eq in
      let one : Some x ≡ Some y = sym (own_key x xs) ∙ same (key x) ∙ ap (λ t. if t then Some y else row_at key (key x) ys) (eq_from (key y) (key x) (sym is.0) (sym is.1)) in
      cc (one)

  pub same-rows : (xs ys : List X) → Ascends key xs → Ascends key ys → ((k : ℕ × ℕ) → row_at key k xs ≡ row_at key k ys) → xs ≡ ys
  same-rows [] [] up also same = refl
  same-rows [] (y ∷ ys) up also same = absurd (not_none y (row_at key (key y) (y ∷ ys)) (own_key y ys) (sym (same (key y))))
  same-rows (x ∷ xs) [] up also same = absurd (not_none x (row_at key (key x) (x ∷ xs)) (own_key x xs) (same (key x)))
  same-rows (x ∷ xs) (y ∷ ys) up also same =
      let is : x ≡ y = heads x y xs ys up also same (key_lt (key x) (key y)) (key_eq (key x) (key y)) refl refl in
      let over = subst (λ q. AllRows (λ z. key_lt (key q) (key z) ≡ true) ys) (sym is) also.0 in
      let behind = same-rows xs ys up.1 also.1 (tails x xs ys up.0 over (λ k. same k ∙ ap (λ q. row_at key k (q ∷ ys)) (sym is))) in
      ap (λ q. q ∷ xs) is ∙ ap (λ l. y ∷ l) behind

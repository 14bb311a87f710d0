-- Names in a list of rows.
use Rattle.std.proofs.{Common.{◌≡◌, ℕ, suc, true, false, List, [], ◌∷◌, ◌++◌, map, length, Some, None, position, nat_lt, refl, ap, sym, ◌∙◌, inl, inr, arith, rules, cond, OnOk}, lemmas.Bool.cases_Bool}
use Rattle.std.specs.{Prelude.{Result, Ok, Err}, List.{position_or_len, list_any}, Str.bytes_eq}
use Rattle.file_words.specs.Lines.{Bytes}
use Rattle.file_names.specs.Names.{is_listed, noted, number_of, place_of}

module _ {X : Type 0} (f : X → Bytes) (n : Bytes) where
  -- the number of a name is the place of the first row that has it
  pub number_is_place : (ks : List X) → number_of (map f ks) n ≡ position_or_len (λ k. bytes_eq n (f k)) ks
  number_is_place [] = refl
  number_is_place (k ∷ ks) =
      elim (cases_Bool (bytes_eq n (f k))) [
        | inl same ↦ rw same refl
        | inr other ↦ rw (other, number_is_place ks) (omega arith)
      ]

  -- a name is listed where that place is within the list
  pub listed_is_within : (ks : List X) → is_listed n (map f ks) ≡ nat_lt (position_or_len (λ k. bytes_eq n (f k)) ks) (length ks)
  listed_is_within [] = refl
  listed_is_within (k ∷ ks) =
      elim (cases_Bool (bytes_eq n (f k))) [
        | inl same ↦ rw same (search rules)
        | inr other ↦ rw (other, listed_is_within ks) (search rules)
      ]

-- the number of a name that is put behind others
pub number_of_last : (names : List Bytes) (n : Bytes) → is_listed n names ≡ false → number_of (names ++ n ∷ []) n ≡ length names
number_of_last [] n absent = search rules
number_of_last (m ∷ ms) n absent =
    elim (cases_Bool (bytes_eq n m)) [
      | inl same ↦ cc
      | inr other ↦ let later : is_listed n ms ≡ false = rw other at absent in rw other (ap suc (number_of_last ms n later))
    ]

module _ {X : Type 0} (f : X → Bytes) (n : Bytes) where
  pub found_within : (ks : List X) (i : ℕ) → position (λ k. bytes_eq n (f k)) ks ≡ Some i →
      (nat_lt (position_or_len (λ k. bytes_eq n (f k)) ks) (length ks) ≡ true) × (position_or_len (λ k. bytes_eq n (f k)) ks ≡ i)
  found_within ks i is =
      elim (cases_Bool (nat_lt (position_or_len (λ k. bytes_eq n (f k)) ks) (length ks))) [
        | inl within ↦ let here : Some (position_or_len (λ k. bytes_eq n (f k)) ks) ≡ Some i = rw within at is in (within, cc)
        | inr outside ↦ let here : None ≡ Some i = rw outside at is in absurd (none_is_some i here)
      ]
    where
      none_is_some : (m : ℕ) → None ≡ Some m → ⊥
      none_is_some m e = cc

  pub found_noted : (ks : List X) (i : ℕ) → position (λ k. bytes_eq n (f k)) ks ≡ Some i → noted (map f ks) n ≡ map f ks
  found_noted ks i is = let there : is_listed n (map f ks) ≡ true = listed_is_within f n ks ∙ (found_within ks i is).0 in rw there refl

  pub found_number : (ks : List X) (i : ℕ) → position (λ k. bytes_eq n (f k)) ks ≡ Some i → i ≡ number_of (noted (map f ks) n) n
  found_number ks i is = rw (found_noted ks i is) (sym (number_is_place f n ks ∙ (found_within ks i is).1))

  -- a search by index answers the place
  pub found_place : (ks : List X) → position (λ k. bytes_eq n (f k)) ks ≡ place_of (map f ks) n
  found_place ks = rw (listed_is_within f n ks, number_is_place f n ks) refl

  pub absent_listed : (ks : List X) → position (λ k. bytes_eq n (f k)) ks ≡ None → is_listed n (map f ks) ≡ false
  absent_listed ks none =
      elim (cases_Bool (nat_lt (position_or_len (λ k. bytes_eq n (f k)) ks) (length ks))) [
        | inl within ↦
            let here : Some (position_or_len (λ k. bytes_eq n (f k)) ks) ≡ None = rw within at none in
            absurd (some_is_none (position_or_len (λ k. bytes_eq n (f k)) ks) here)
        | inr outside ↦ listed_is_within f n ks ∙ outside
      ]
    where
      some_is_none : (m : ℕ) → Some m ≡ None → ⊥
      some_is_none m e = cc

pub absent_noted : (names : List Bytes) (n : Bytes) → is_listed n names ≡ false → noted names n ≡ names ++ n ∷ []
absent_noted names n absent = rw absent refl

pub absent_number : (names : List Bytes) (n : Bytes) → is_listed n names ≡ false → length names ≡ number_of (noted names n) n
absent_number names n absent = rw absent (sym (number_of_last names n absent))

module _ {X : Type 0} (f : X → Bytes) where
  pub listed_in_rows : (n : Bytes) (ks : List X) → is_listed n (map f ks) ≡ list_any (λ k. bytes_eq n (f k)) ks
  listed_in_rows n [] = refl
  listed_in_rows n (k ∷ ks) = rw (listed_in_rows n ks) refl

  pub map_last : (ks : List X) (v : X) → map f (ks ++ v ∷ []) ≡ map f ks ++ f v ∷ []
  map_last [] v = refl
  map_last (k ∷ ks) v = ap (λ r. f k ∷ r) (map_last ks v)

  pub inserted_noted : (ks : List X) (v : X) (n : Bytes) → f v ≡ n →
      map f (cond (list_any (λ k. bytes_eq (f v) (f k)) ks) ks (ks ++ v ∷ [])) ≡ noted (map f ks) n
  inserted_noted ks v n is =
      let at_v : map f (cond (list_any (λ k. bytes_eq (f v) (f k)) ks) ks (ks ++ v ∷ [])) ≡ noted (map f ks) (f v) =
      elim (cases_Bool (list_any (λ k. bytes_eq (f v) (f k)) ks)) [
        | inl there ↦ let listed : is_listed (f v) (map f ks) ≡ true = listed_in_rows (f v) ks ∙ there in rw (there, listed) refl
        | inr absent ↦ let listed : is_listed (f v) (map f ks) ≡ false = listed_in_rows (f v) ks ∙ absent in rw (absent, listed) (map_last ks v)
      ] in
      at_v ∙ ap (noted (map f ks)) is

  -- a name that was not listed goes last
  pub inserted_last : (ks : List X) (v : X) (n : Bytes) → f v ≡ n → is_listed n (map f ks) ≡ false →
      map f (cond (list_any (λ k. bytes_eq (f v) (f k)) ks) ks (ks ++ v ∷ [])) ≡ map f ks ++ n ∷ []
  inserted_last ks v n is absent = inserted_noted ks v n is ∙ absent_noted (map f ks) n absent

-- a fact holds where a call went well
pub on_ok : {T E : Type 0} {P : Type 0} (r : Result T E) → P → OnOk r P
on_ok (Ok x) p = p
on_ok (Err e) p = tt

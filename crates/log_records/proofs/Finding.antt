-- Names and their places in a table that is filled from the last name to the first.
use Rattle.std.proofs.{Common.{◌≡◌, ℕ, ◌+◌, Bool, true, false, List, [], ◌∷◌, drop, Option, Some, option_map, cond, refl, sym, ap, ◌∙◌, arith, inl, inr}, lemmas.Bool.cases_Bool, lemmas.Slice.Eq.bytes_eq-Decides}
use Rattle.std.specs.{Map.lookup, Str.bytes_eq, declared.vec.Vec.Vec}
use Rattle.indexmap.specs.IndexMap.{insert_entry}
use Rattle.file_names.specs.Names.{is_listed, place_of}
use Rattle.file_words.specs.Lines.{Bytes}
use Rattle.log_records.specs.Places.{ArePlacesFrom}

equal : (a b : Bytes) → bytes_eq a b ≡ true → a ≡ b
equal a b e = (bytes_eq-Decides a b).0 e

-- where the key is there
over : (b : Bool) (v w : ℕ) (rest : Option ℕ) → cond b (Some v) rest ≡ cond b (Some v) (cond b (Some w) rest)
over true v w rest = refl
over false v w rest = refl

-- where it is not
behind : (at_e at_k : Bool) (v w : ℕ) (rest : Option ℕ) → (at_e ≡ true → at_k ≡ true → ⊥) → cond at_e (Some w) (cond at_k (Some v) rest) ≡ cond at_k (Some v) (cond at_e (Some w) rest)
behind true true v w rest apart = absurd (apart refl refl)
behind true false v w rest apart = refl
behind false true v w rest apart = refl
behind false false v w rest apart = refl

-- the place of a name in a list that begins with another
place_cons : (at : ℕ) (m : Bytes) (names : List Bytes) (n : Bytes) → option_map (λ i. at + i) (place_of (m ∷ names) n) ≡ cond (bytes_eq n m) (Some at) (option_map (λ i. (at + 1) + i) (place_of names n))
place_cons at m names n =
    elim (cases_Bool (bytes_eq n m)) [
      | inl same ↦ rw same (ap Some (omega arith))
      | inr other ↦ rw other (elim (cases_Bool (is_listed n names)) [
        | inl there ↦ rw there (ap Some (omega arith))
        | inr absent ↦ rw absent refl
      ])
    ]

module _ {S : Type 0} where
  -- the value of a name, in a table
  abbrev at_name : Bytes → List (Vec ℕ S × ℕ) → Option ℕ
  at_name n entries = lookup (λ k. bytes_eq n k.items) entries

  abbrev with_name : List (Vec ℕ S × ℕ) → Vec ℕ S → ℕ → List (Vec ℕ S × ℕ)
  with_name entries key value = insert_entry (λ a b. bytes_eq a.items b.items) entries key value

  inserted : (entries : List (Vec ℕ S × ℕ)) (key : Vec ℕ S) (value : ℕ) (n : Bytes) → at_name n (with_name entries key value) ≡ cond (bytes_eq n key.items) (Some value) (at_name n entries)
  inserted [] key value n = refl
  inserted (e ∷ es) key value n =
      elim (cases_Bool (bytes_eq key.items e.0.items)) [
        | inl same ↦ rw (same, equal key.items e.0.items same) (over (bytes_eq n e.0.items) value e.1 (at_name n es))
        | inr other ↦
            rw (other, inserted es key value n)
            (behind (bytes_eq n e.0.items) (bytes_eq n key.items) value e.1 (at_name n es) (λ p q.
            let a : n ≡ e.0.items = equal n e.0.items p in
            let b : n ≡ key.items = equal n key.items q in
            let c : bytes_eq key.items e.0.items ≡ true = rw (← b) p in
            let d : false ≡ true = sym other ∙ c in
            cc))
      ]

  pub one_more : (at value : ℕ) (m : Bytes) (names : List Bytes) (entries : List (Vec ℕ S × ℕ)) (key : Vec ℕ S) → ArePlacesFrom (at + 1) entries names → drop at names ≡ m ∷ drop (at + 1) names → key.items ≡ m → value ≡ at → ArePlacesFrom at (with_name entries key value) names
  one_more at value m names entries key before first is it = λ n.
      inserted entries key value n ∙ rw (is, it, before n, first) (sym (place_cons at m (drop (at + 1) names) n))

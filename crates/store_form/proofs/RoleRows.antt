-- Rows that are read and tested one by one are those that are read and then tested.
use Rattle.store_form.proofs.Common.{[], ℕ, ◌&&◌, ◌++◌, ◌+◌, ◌<◌, ◌==◌, ◌>>=◌, ◌∙◌, ◌∷◌, ◌≡◌, ap, arith, Bool, Bytes, drop, drop_row, Fails, false, Field, filled-next, first, get_or, get_or_default, if◌then◌else◌, length, List, list_all}
use Rattle.store_form.proofs.{Common.{list_at, ltb-true, many_at, nat_lt, ne_eqb, None, pair_at, put_role, put_row, Reader, ReadFault, refl, rises, roles_at, Some, suc, sym, true, u32_at, where_at, zero}, SchemaForms.rises-ascends}
use Rattle.store_form.specs.declared.fields.ReadFault.TheVariants as fault

abbrev kept_if : {A : Type 0} → Bool → A × Bytes → Field A
kept_if keep x = if keep then Some x else None

module _ {A : Type 0} (test : A → Bool) (item : Reader A) where
  put_before : (a : A) (read : Field (List A)) → test a ≡ true
      → ((read >>= λ xs. kept_if (list_all test xs.0) xs) >>= λ xs. Some (a ∷ xs.0, xs.1)) ≡ ((read >>= λ xs. Some (a ∷ xs.0, xs.1)) >>= λ ys. kept_if (list_all test ys.0) ys)
  put_before a None good = refl
  put_before a (Some xs) good = chosen (list_all test xs.0) ∙ sym (ap (λ b. kept_if (b && list_all test xs.0) (a ∷ xs.0, xs.1)) good)
    where
      chosen : (b : Bool) → (kept_if b xs >>= λ ys. Some (a ∷ ys.0, ys.1)) ≡ kept_if b (a ∷ xs.0, xs.1)
      chosen true = refl
      chosen false = refl

  refused : (a : A) (read : Field (List A)) → test a ≡ false → ((read >>= λ xs. Some (a ∷ xs.0, xs.1)) >>= λ ys. kept_if (list_all test ys.0) ys) ≡ None
  refused a None bad = refl
  refused a (Some xs) bad = ap (λ b. kept_if (b && list_all test xs.0) (a ∷ xs.0, xs.1)) bad

  abbrev Tested : ℕ → Type 0
  Tested n = (bytes : Bytes) → many_at (where_at test item) n bytes ≡ (many_at item n bytes >>= λ xs. kept_if (list_all test xs.0) xs)

  one-tested : (n : ℕ) → Tested n → (a : A × Bytes) (b : Bool) → test a.0 ≡ b
      → (kept_if b a >>= λ x. many_at (where_at test item) n x.1 >>= λ xs. Some (x.0 ∷ xs.0, xs.1))
      ≡ ((many_at item n a.1 >>= λ xs. Some (a.0 ∷ xs.0, xs.1)) >>= λ ys. kept_if (list_all test ys.0) ys)
  one-tested n others a true good = ap (λ r. r >>= λ xs. Some (a.0 ∷ xs.0, xs.1)) (others a.1) ∙ put_before a.0 (many_at item n a.1) good
  one-tested n others a false bad = sym (refused a.0 (many_at item n a.1) bad)

  next-tested : (n : ℕ) → Tested n → (read : Field A)
      → ((read >>= λ a. kept_if (test a.0) a) >>= λ x. many_at (where_at test item) n x.1 >>= λ xs. Some (x.0 ∷ xs.0, xs.1))
      ≡ ((read >>= λ x. many_at item n x.1 >>= λ xs. Some (x.0 ∷ xs.0, xs.1)) >>= λ ys. kept_if (list_all test ys.0) ys)
  next-tested n others None = refl
  next-tested n others (Some a) = one-tested n others a (test a.0) refl

  many-tested : (n : ℕ) → Tested n
  many-tested zero bytes = refl
  many-tested (suc n) bytes = next-tested n (many-tested n) (item bytes)

  list-tested : (bytes : Bytes) → list_at (where_at test item) bytes ≡ (list_at item bytes >>= λ xs. kept_if (list_all test xs.0) xs)
  list-tested bytes = from (u32_at bytes)
    where
      from : (count : Field ℕ) → (count >>= λ n. many_at (where_at test item) n.0 n.1) ≡ ((count >>= λ n. many_at item n.0 n.1) >>= λ xs. kept_if (list_all test xs.0) xs)
      from None = refl
      from (Some n) = many-tested n.0 n.1

-- roles
abbrev tested : Bytes → Field (List (ℕ × ℕ)) → Field (List (ℕ × ℕ))
tested bytes read = (read >>= λ xs. kept_if (list_all (λ r. nat_lt 0 r.1) xs.0) xs) >>= λ xs. kept_if (rises first xs.0) xs

roles-are : (bytes : Bytes) (read : Field (List (ℕ × ℕ))) → list_at pair_at bytes ≡ read → roles_at bytes ≡ tested bytes read
roles-are bytes read e = ap (λ r. r >>= λ xs. kept_if (rises first xs.0) xs) (list-tested (λ r. nat_lt 0 r.1) pair_at bytes) ∙ ap (tested bytes) e

pub roles-fail : (e : ReadFault) (bytes : Bytes) → Fails e (list_at pair_at bytes) → Fails e (roles_at bytes)
roles-fail fault.NoMemory bytes failed = tt
roles-fail fault.Malformed bytes failed = roles-are bytes None failed

module _ (bytes : Bytes) (rows : List (ℕ × ℕ)) (rest : Bytes) (read : list_at pair_at bytes ≡ Some (rows, rest)) where
  abbrev chosen : Bool → Bool → Field (List (ℕ × ℕ))
  chosen positive rise = kept_if positive (rows, rest) >>= λ xs. kept_if rise xs

  roles-chosen : (positive rise : Bool) → list_all (λ r. nat_lt 0 r.1) rows ≡ positive → rises first rows ≡ rise → roles_at bytes ≡ chosen positive rise
  roles-chosen true rise p r =
      roles-are bytes (Some (rows, rest)) read ∙ ap (λ b. kept_if b (rows, rest) >>= λ xs. kept_if (rises first xs.0) xs) p ∙ ap (λ b. kept_if b (rows, rest)) r
  roles-chosen false rise p r = roles-are bytes (Some (rows, rest)) read ∙ ap (λ b. kept_if b (rows, rest) >>= λ xs. kept_if (rises first xs.0) xs) p

  pub roles-unsorted : rises first rows ≡ false → roles_at bytes ≡ None
  roles-unsorted r = roles-chosen (list_all (λ r. nat_lt 0 r.1) rows) false refl r ∙ never (list_all (λ r. nat_lt 0 r.1) rows)
    where
      never : (b : Bool) → chosen b false ≡ None
      never true = refl
      never false = refl

  pub roles-zero : rises first rows ≡ true → list_all (λ r. nat_lt 0 r.1) rows ≡ false → roles_at bytes ≡ None
  roles-zero r p = roles-chosen false true p r

  pub roles-read : rises first rows ≡ true → list_all (λ r. nat_lt 0 r.1) rows ≡ true → roles_at bytes ≡ Some (rows, rest)
  roles-read r p = roles-chosen true true p r

-- what each row of a list meets
all-at : {X : Type 0} (test : X → Bool) (xs : List X) (i : ℕ) (x : X) → x ≡ get_or xs i x → i < length xs → list_all test xs ≡ true → test x ≡ true
all-at test [] i x is lt all = absurd (omega (arith, lt))
all-at test (y ∷ ys) zero x is lt all = ap test is ∙ front (test y) (list_all test ys) all
  where
    front : (a b : Bool) → a && b ≡ true → a ≡ true
    front true b e = refl
    front false b e = absurd cc
all-at test (y ∷ ys) (suc i) x is lt all = all-at test ys i x is (omega (arith, lt)) (behind (test y) (list_all test ys) all)
  where
    behind : (a b : Bool) → a && b ≡ true → b ≡ true
    behind true b e = e
    behind false b e = absurd cc

no-zero : (n : ℕ) → nat_lt 0 n ≡ true → (n == 0) ≡ false
no-zero n e = ne_eqb n 0 (omega (arith, ltb-true 0 n e))

-- the roles of the first rows, with the next one
pub roles-next : (rows roles new : List (ℕ × ℕ)) (i : ℕ) (d : ℕ × ℕ) → i < length rows → rises first rows ≡ true → list_all (λ r. nat_lt 0 r.1) rows ≡ true
    → new ≡ put_role (get_or rows i d).0 (get_or rows i d).1 roles → roles ++ drop i rows ≡ rows → new ++ drop (i + 1) rows ≡ rows
roles-next rows roles new i d lt rise all put filled =
    let x : ℕ × ℕ = get_or rows i d in
    let is : x ≡ get_or rows i x = get_or_default rows i d x lt in
    let role : (x.1 == 0) ≡ false = no-zero x.1 (all-at (λ r. nat_lt 0 r.1) rows i x is lt all) in
    filled-next first rows roles new i x is lt (rises-ascends first rows rise) (put ∙ ap (λ b. if b then drop_row first (x.0, 0) roles else put_row first x roles) role) filled

-- Schemas are read as what was written.
use Rattle.store_form.proofs.Common.{[], ℕ, ◌&&◌, ◌++◌, ◌<◌, ◌∙◌, ◌∷◌, ◌≡◌, AllByRecursion, AllRows, ap, Ascends, Bool, both, Bytes, element_at, ElementKind, false, first, first_two, FitsEach, FitsPair, FitsSchema, flag, IsNumber, key_lt}
use Rattle.store_form.proofs.{Common.{kind_bytes, List, listed, lt-ltb, ltb-true, nat_lt, pair_at, read_at, Reader, refl, rises, rises_from, schema_bytes, table_at, true, u32, u32_u32, where_at}, Forms.{IsForm, both_form, where_form}}
use Rattle.store_form.proofs.{Forms.{list_form, made_form, flag_form, u32_form}, TreeForms.tree_form, ValueForms.kind_form}
use Rattle.wsm_lists.proofs.Rows.{lt_trans}
use Rattle.store_form.specs.Reading.{schema_at}

and_split : (a b : Bool) → a && b ≡ true → (a ≡ true) × (b ≡ true)
and_split true b e = (refl, e)
and_split false b e = absurd cc

-- keys that rise from one to the next ascend
module _ {X : Type 0} (key : X → ℕ × ℕ) where
  above : (k l : ℕ × ℕ) (xs : List X) → key_lt k l ≡ true → AllRows (λ y. key_lt l (key y) ≡ true) xs → AllRows (λ y. key_lt k (key y) ≡ true) xs
  above k l [] below all = tt
  above k l (x ∷ xs) below all = (lt_trans k l (key x) below all.0, above k l xs below all.1)

  rises-told : (k : ℕ × ℕ) (xs : List X) → rises_from key k xs ≡ true → AllRows (λ y. key_lt k (key y) ≡ true) xs × Ascends key xs
  rises-told k [] e = (tt, tt)
  rises-told k (x ∷ xs) e =
      let s = and_split (key_lt k (key x)) (rises_from key (key x) xs) e in
      let behind = rises-told (key x) xs s.1 in
      ((s.0, above k (key x) xs s.0 behind.0), (behind.0, behind.1))

  rises-met : (k : ℕ × ℕ) (xs : List X) → AllRows (λ y. key_lt k (key y) ≡ true) xs → Ascends key xs → rises_from key k xs ≡ true
  rises-met k [] all asc = refl
  rises-met k (x ∷ xs) all asc = ap (λ b. b && rises_from key (key x) xs) all.0 ∙ rises-met (key x) xs asc.0 asc.1

  pub ascends-rises : (xs : List X) → Ascends key xs → rises key xs ≡ true
  ascends-rises [] asc = refl
  ascends-rises (x ∷ xs) asc = rises-met (key x) xs asc.0 asc.1

  pub rises-ascends : (xs : List X) → rises key xs ≡ true → Ascends key xs
  rises-ascends [] e = tt
  rises-ascends (x ∷ xs) e = let told = rises-told (key x) xs e in (told.0, told.1)

  pub table_form : {fits : X → Type 0} {write : X → Bytes} {read : Reader X} → IsForm fits write read → IsForm (λ xs. FitsEach fits xs × Ascends key xs) (listed write) (table_at key read)
  table_form row = where_form (list_form row) (rises key) (Ascends key) ascends-rises (λ xs fit e. rises-ascends xs e)

-- the rows
pair_form : IsForm FitsPair u32_u32 pair_at
pair_form = both_form u32_form u32_form

element_form : IsForm (λ e. IsNumber e.0 × Unit {0}) (λ e. u32 e.0 ++ kind_bytes e.1) element_at
element_form = both_form u32_form kind_form

read_form : IsForm (λ r. IsNumber r.0 × IsNumber r.1) (λ r. u32 r.0 ++ (u32 r.1 ++ flag r.2)) read_at
read_form = made_form (both_form u32_form (both_form u32_form flag_form)) (λ x. (x.0, x.1.0, x.1.1)) (λ r. (r.0, (r.1, r.2)))
    (λ r. IsNumber r.0 × IsNumber r.1) (λ r. u32 r.0 ++ (u32 r.1 ++ flag r.2)) (λ r fit. ((fit.0, (fit.1, tt)), refl, refl)) (λ x fit. ((fit.0, fit.1.0), refl))

role_form : IsForm (λ r. FitsPair r × (0 < r.1)) u32_u32 (where_at (λ r. nat_lt 0 r.1) pair_at)
role_form = where_form pair_form (λ r. nat_lt 0 r.1) (λ r. 0 < r.1) (λ r positive. lt-ltb 0 r.1 positive) (λ r fit e. ltb-true 0 r.1 e)

-- each of two facts of each row
split_each : {X : Type 0} (P Q : X → Type 0) (xs : List X) → AllByRecursion (λ x. P x × Q x) xs → AllByRecursion P xs × AllRows Q xs
split_each P Q [] all = (tt, tt)
split_each P Q (x ∷ xs) all = let behind = split_each P Q xs all.1 in ((all.0.0, behind.0), (all.0.1, behind.1))

join_each : {X : Type 0} (P Q : X → Type 0) (xs : List X) → AllByRecursion P xs → AllRows Q xs → AllByRecursion (λ x. P x × Q x) xs
join_each P Q [] ps qs = tt
join_each P Q (x ∷ xs) ps qs = ((ps.0, qs.0), join_each P Q xs ps.1 qs.1)

pub only_first : {X : Type 0} (P : X → Type 0) (xs : List X) → AllByRecursion (λ x. P x × Unit {0}) xs → AllByRecursion P xs
only_first P [] all = tt
only_first P (x ∷ xs) all = (all.0.0, only_first P xs all.1)

with_unit : {X : Type 0} (P : X → Type 0) (xs : List X) → AllByRecursion P xs → AllByRecursion (λ x. P x × Unit {0}) xs
with_unit P [] all = tt
with_unit P (x ∷ xs) all = ((all.0, tt), with_unit P xs all.1)

-- the whole schema
abbrev element_fits : ℕ × ElementKind → Type 0
element_fits e = IsNumber e.0

pub schema_form : IsForm FitsSchema schema_bytes schema_at
unfolding schema_at
schema_form = made_form (both_form u32_form (both_form u32_form (both_form tree_form (both_form (table_form both pair_form) (both_form (table_form first element_form)
    (both_form (table_form first_two read_form) (both_form (table_form both pair_form) (table_form first role_form)))))))) _ (λ s. (s.start, (s.finish, (s.body, (s.syncs, (s.elements, (s.reads, (s.writes, s.roles)))))))) FitsSchema schema_bytes
    (λ s fit. (
      (
        fit.ends.0,
        (
          fit.ends.1,
          (
            (fit.tree.0, fit.tree.1, fit.deep),
            (
              fit.tables.0,
              (
                ((fit.tables.1.0.0, with_unit element_fits s.elements fit.tables.1.0.1), fit.tables.1.1),
                (
                  fit.tables.2.0,
                  (
                    fit.tables.2.1,
                    ((fit.tables.2.2.0.0, join_each FitsPair (λ r. 0 < r.1) s.roles fit.tables.2.2.0.1 fit.tables.2.2.1.1), fit.tables.2.2.1.0),
                  ),
                ),
              ),
            ),
          ),
        ),
      ),
      refl,
      refl,
    ))
    (λ x fit.
    let roles = split_each FitsPair (λ r. 0 < r.1) x.1.1.1.1.1.1.1 fit.1.1.1.1.1.1.1.0.1 in (
      record {
        ends = (fit.0, fit.1.0);
        tree = (fit.1.1.0.0, fit.1.1.0.1);
        deep = fit.1.1.0.2;
        tables = (
          fit.1.1.1.0,
          ((fit.1.1.1.1.0.0.0, only_first element_fits x.1.1.1.1.0 fit.1.1.1.1.0.0.1), fit.1.1.1.1.0.1),
          (fit.1.1.1.1.1.0, fit.1.1.1.1.1.1.0, ((fit.1.1.1.1.1.1.1.0.0, roles.0), (fit.1.1.1.1.1.1.1.1, roles.1))),
        );
      },
      refl,
    ))

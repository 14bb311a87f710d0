-- Rows that stand where their names stand in a list.
use Rattle.log_fit.proofs.Common.{[], ℕ, ◌++◌, ◌+◌, ◌<◌, ◌∙◌, ◌∷◌, ◌≡◌, answered, ap, AreApart, arith, Bytes, bytes_eq, cases_Bool, false, get_or, goes_on, inl, inr, is_listed, IsTable, later, le-ltb, length, length-map, List, LogEvent}
use Rattle.log_fit.proofs.Common.{LogRecord, lt-ltb, map, None, noted, number_of, opened_row, Option, ProgressModel, reach, reach_from, refl, Reply, rows_with, slice_set, Some, sym, true, VersionModel}
use Rattle.file_names.proofs.Noted.{number_of_last}
use Rattle.std.proofs.lemmas.{Bool.or_parts, List.map-append, List.Folds.list_any-append, Slice.Eq.bytes_eq-Decides}

equal : (a b : Bytes) → bytes_eq a b ≡ true → a ≡ b
equal a b e = (bytes_eq-Decides a b).0 e

itself : (a : Bytes) → bytes_eq a a ≡ true
itself a = (bytes_eq-Decides a a).1 refl

-- a name behind others is told apart from each, and so each from it
listed_last : (n c : Bytes) (names : List Bytes) → is_listed n names ≡ false → bytes_eq n c ≡ false → is_listed n (names ++ c ∷ []) ≡ false
listed_last n c names none other = rw (list_any-append (bytes_eq n) names (c ∷ []), none, other) refl

swapped : (a b : Bytes) → bytes_eq a b ≡ false → bytes_eq b a ≡ false
swapped a b e =
    elim (cases_Bool (bytes_eq b a)) [
      | inl same ↦ let is : b ≡ a = equal b a same in let wrong : true ≡ false = sym (itself b) ∙ rw (← is) at e in cc
      | inr other ↦ other
    ]

apart_last : (c : Bytes) (names : List Bytes) → AreApart names → is_listed c names ≡ false → AreApart (names ++ c ∷ [])
apart_last c [] apart absent = (refl, tt)
apart_last c (m ∷ ms) apart absent =
    let (other, rest) = or_parts (bytes_eq c m) (is_listed c ms) absent in
    (listed_last m c ms apart.0 (swapped c m other), apart_last c ms apart.1 rest)

-- what holds of the rows where the one of a name changes, and no other
record IsChanged (before after : Bytes → ProgressModel) (c : Bytes) (names : List Bytes) : Type 0 where
  inside : number_of names c < length names
  here : (d : ProgressModel) → get_or (map before names) (number_of names c) d ≡ before c
  there : slice_set (map before names) (number_of names c) (after c) ≡ map after names

-- a record more
one_more : (v : VersionModel) (p : ProgressModel) (e : LogEvent) → (reach v p e).events ≡ p.events + 1
one_more v p e = by p.next
  where
    by : (o : Option Reply) → (reach_from v p e o).events ≡ p.events + 1
    by (Some r) = refl
    by None =
        elim (cases_Bool (goes_on (answered v p.machine e).1)) [
          | inl on ↦ rw on refl
          | inr off ↦ rw off refl
        ]

module _ (before after : Bytes → ProgressModel) (c : Bytes) (others : (n : Bytes) → bytes_eq c n ≡ false → after n ≡ before n) where
  stay : (names : List Bytes) → is_listed c names ≡ false → map before names ≡ map after names
  stay [] none = refl
  stay (n ∷ ns) none = let (other, rest) = or_parts (bytes_eq c n) (is_listed c ns) none in rw (others n other) (ap (λ ps. before n ∷ ps) (stay ns rest))

  changed : (names : List Bytes) → AreApart names → is_listed c names ≡ true → IsChanged before after c names
  changed [] apart there = absurd (cc)
  changed (n ∷ ns) apart there =
      elim (cases_Bool (bytes_eq c n)) [
        | inl same ↦
            let is : c ≡ n = equal c n same in
            record {
              inside = rw same (omega arith);
              here = λ d. rw same (ap before (sym is));
              there = rw (same, is) (ap (λ ps. after n ∷ ps) (stay ns (rw is apart.0)));
            }
        | inr other ↦
            let rest = changed ns apart.1 (rw other at there) in
            record {
              inside = rw other (omega (arith, rest.inside));
              here = λ d. rw other (rest.here d);
              there = rw (other, others n other) (ap (λ ps. before n ∷ ps) rest.there);
            }
      ]

module _ {v : VersionModel} {row : Bytes → ProgressModel} {most : ℕ} {names : List Bytes} {rows : List ProgressModel} (t : IsTable v row most names rows) (r : LogRecord) where
  -- the names with that of the record, and its place
  abbrev named : List Bytes
  named = noted names r.case

  abbrev place : ℕ
  place = number_of named r.case

  apart_named : AreApart named
  apart_named =
      elim (cases_Bool (is_listed r.case names)) [
        | inl there ↦ rw there t.apart
        | inr absent ↦ rw absent (apart_last r.case names t.apart absent)
      ]

  listed : is_listed r.case named ≡ true
  listed =
      elim (cases_Bool (is_listed r.case names)) [
        | inl there ↦ rw there there
        | inr absent ↦ rw (absent, list_any-append (bytes_eq r.case) names (r.case ∷ []), absent, itself r.case) refl
      ]

  change : IsChanged row (later v r row) r.case named
  change = changed row (later v r row) r.case (λ n other. rw other refl) named apart_named listed

  -- each of the names has a row, that of the record too
  with_row : rows_with v rows place r.case ≡ map row named
  with_row =
      elim (cases_Bool (is_listed r.case names)) [
        | inl there ↦
            let inside : number_of names r.case < length names = rw there at change.inside in
            rw (there, t.come, lt-ltb (number_of names r.case) (length (map row names)) (omega (arith, inside, length-map names row))) refl
        | inr absent ↦
            rw (absent, number_of_last names r.case absent, t.come, le-ltb (length names) (length (map row names)) (omega (arith, length-map names row)))
            (rw (← t.fresh r.case absent) (sym (map-append row names (r.case ∷ []))))
      ]

  pub inside : place < length (rows_with v rows place r.case)
  inside = rw with_row (omega (arith, change.inside, length-map named row))

  pub found : (p : ProgressModel) → p ≡ get_or (rows_with v rows place r.case) place p → p ≡ row r.case
  found p is = is ∙ ap (λ ps. get_or ps place p) with_row ∙ change.here p

  -- a case that is not among the names was not before, and is not that of the record
  unlisted : (n : Bytes) → is_listed n named ≡ false → is_listed n names ≡ false
  unlisted n none =
      elim (cases_Bool (is_listed r.case names)) [
        | inl there ↦ rw there at none
        | inr absent ↦ (or_parts (is_listed n names) _ (rw (absent, list_any-append (bytes_eq n) names (r.case ∷ [])) at none)).0
      ]

  unseen : (n : Bytes) → is_listed n named ≡ false → later v r row n ≡ opened_row v n
  unseen n none =
      elim (cases_Bool (bytes_eq r.case n)) [
        | inl same ↦ let is = equal r.case n same in let wrong : true ≡ false = sym listed ∙ rw (← is) at none in cc
        | inr other ↦ rw other (t.fresh n (unlisted n none))
      ]

  pub taken : (p : ProgressModel) (new : List ProgressModel) → p ≡ row r.case → new ≡ slice_set (rows_with v rows place r.case) place (reach v p r.event) → IsTable v (later v r row) (most + 1) named new
  taken p new at is = record {
    apart = apart_named;
    come = is ∙ rw (at, with_row) (ap (slice_set (map row named) place) (sym own) ∙ change.there);
    fresh = unseen;
    few = λ n.
        elim (cases_Bool (bytes_eq r.case n)) [
          | inl same ↦ rw same (omega (arith, one_more v (row n) r.event, t.few n))
          | inr other ↦ rw other (omega (arith, t.few n))
        ];
  }
    where
      own : later v r row r.case ≡ reach v (row r.case) r.event
      own = rw (itself r.case) refl

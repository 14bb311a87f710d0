-- The cases of a log that were taken so far, and the records behind them.
use Rattle.log_fit.proofs.Common.{[], ℕ, ◌+◌, ◌∙◌, ◌∷◌, ◌≡◌, ap, are_too_many, arith, Bytes, bytes_eq, CaseFit, cases_Bool, Err, false, Fields, fit_of, fits_told, fold, if◌then◌else◌, inl, inr, IsTable, later, List, LogRecord, map, noted}
use Rattle.log_fit.proofs.{Common.{of_case, Ok, opened_row, ProgressModel, reach, record_of, refl, Result, Some, sym, TakesRecord, Told, told_by, told_from, true, VersionModel, with_first, WrongRecord}, Going.as_told}
use Rattle.log_records.specs.declared.faults.RecordFault.TheVariants as fault
use Rattle.std.proofs.lemmas.Simd.{map-map}
use Rattle.wsm_lists.proofs.Lists.{all_rows, map-same}

module _ (v : VersionModel) where
  -- how far a case goes by these records more, and how far all do
  abbrev case_goes : (Bytes → ProgressModel) → List LogRecord → Bytes → CaseFit
  case_goes row rs name = fit_of (fold (reach v) (row name) (of_case name rs))

  abbrev pub goes : (Bytes → ProgressModel) → List Bytes → Told → Result (List CaseFit) WrongRecord
  goes row names (Ok rs) = Ok (map (case_goes row rs) (fold (λ ns r. noted ns r.case) names rs))
  goes row names (Err wrong) = Err wrong

  alike : (f g : Bytes → CaseFit) (names : List Bytes) → ((n : Bytes) → f n ≡ g n) → ◌≡◌ {A = Result (List CaseFit) WrongRecord} (Ok (map f names)) (Ok (map g names))
  alike f g names each = ap Ok (map-same f g names (all_rows (λ n. f n ≡ g n) each names))

  from_start : (told : Told) → fits_told v told ≡ goes (opened_row v) [] told
  from_start (Ok rs) = alike _ _ _ (λ n. sym (as_told v n (of_case n rs)))
  from_start (Err wrong) = refl

  with_one : (row : Bytes → ProgressModel) (names : List Bytes) (r : LogRecord) (more : Told) → goes row names (with_first r more) ≡ goes (later v r row) (noted names r.case) more
  with_one row names r (Err wrong) = refl
  with_one row names r (Ok rs) =
      alike (case_goes row (r ∷ rs)) (case_goes (later v r row) rs) _ (λ n.
      elim (cases_Bool (bytes_eq r.case n)) [
        | inl same ↦ rw same refl
        | inr other ↦ rw other refl
      ])

-- the cases so far, and what they come to with the records that are left
pub record IsReached (v : VersionModel) (nodes elements : List Bytes) (whole : Told) (at : ℕ) (names : List Bytes) (rows : List ProgressModel) (left : List Fields) : Type 0 where
  pub row : Bytes → ProgressModel
  pub table : IsTable v row at names rows
  pub rest : fits_told v whole ≡ goes v row names (told_from nodes elements at names left)

pub start : (v : VersionModel) (nodes elements : List Bytes) (left : List Fields) (names : List Bytes) (rows : List ProgressModel) → names ≡ [] → rows ≡ [] → IsReached v nodes elements (told_from nodes elements 2 [] left) 2 names rows left
start v nodes elements left names rows none no_rows = rw (none, no_rows) (record {
  row = opened_row v;
  table = record { apart = tt; come = refl; fresh = λ n none. refl; few = λ n. omega arith };
  rest = from_start v (told_from nodes elements 2 [] left);
})

module _ {v : VersionModel} {nodes elements : List Bytes} {whole : Told} {at : ℕ} {names : List Bytes} {rows : List ProgressModel} {left : List Fields} (t : IsReached v nodes elements whole at names rows left) where
  -- all records
  pub ended : left ≡ [] → fits_told v whole ≡ Ok (map fit_of rows)
  ended none =
      t.rest ∙ ap (λ fs. goes v t.row names (told_from nodes elements at names fs)) none
      ∙ ap Ok (sym (ap (map fit_of) t.table.come ∙ map-map fit_of t.row names))

  module _ {fs : Fields} {rest : List Fields} (first : left ≡ fs ∷ rest) {r : LogRecord} (is : record_of nodes elements fs ≡ Some r) where
    told : fits_told v whole ≡ goes v t.row names (if are_too_many (noted names r.case) then Err (record { index = at; why = fault.Cases }) else with_first r (told_from nodes elements (at + 1) (noted names r.case) rest))
    told =
        t.rest ∙ ap (λ ls. goes v t.row names (told_from nodes elements at names ls)) first
        ∙ ap (λ o. goes v t.row names (told_by at names (λ more. told_from nodes elements (at + 1) more rest) o)) is

    -- one of a case too many
    pub crowded : are_too_many (noted names r.case) ≡ true → fits_told v whole ≡ Err (record { index = at; why = fault.Cases })
    crowded full = rw full at told

    -- and one that is right
    pub moved : are_too_many (noted names r.case) ≡ false → {more : List Bytes} {new : List ProgressModel} → more ≡ noted names r.case → TakesRecord v r names rows more new → IsReached v nodes elements whole (at + 1) more new rest
    moved room {more} {new} named takes = record {
      row = later v r t.row;
      table = takes t.row at t.table;
      rest = (rw room at told) ∙ with_one v t.row names r (told_from nodes elements (at + 1) (noted names r.case) rest) ∙ rw named refl;
    }

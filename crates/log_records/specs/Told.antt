-- What a log tells: its records behind the first, or the first wrong one.
use Rattle.std.specs.Prelude.{ℕ, ◌+◌, Bool, ◌&&◌, false, nat_lt, List, [], ◌∷◌, length, Option, Some, None, Result, Ok, Err, if◌then◌else◌, codes}
use Rattle.file_limits.specs.declared.TheConstants.{MAX_CASES}
use Rattle.file_names.specs.Names.{noted}
use Rattle.file_words.specs.{Lines.Bytes, Words.is}
use Rattle.log_records.specs.{Forms.{Cells, cells_of, record_of}, Records.{Fields, records_of}, declared.faults.WrongRecord.WrongRecord, declared.records.LogRecord.LogRecord}
use Rattle.log_records.specs.declared.faults.RecordFault.TheVariants as fault

-- the first record names the fields
abbrev pub are_titles : Option Cells → Bool
are_titles None = false
are_titles (Some c) =
    is (codes "case") c.case && is (codes "event") c.kind && is (codes "node") c.node && is (codes "user") c.user
    && is (codes "choice") c.choice && is (codes "writes") c.writes

abbrev pub is_head : Fields → Bool
is_head fs = are_titles (cells_of fs)

-- a log has at most 4,096 cases
abbrev pub are_too_many : List Bytes → Bool
are_too_many names = nat_lt MAX_CASES (length names)

-- the records behind the first, or the first wrong one
abbrev pub Told : Type 0
Told = Result (List LogRecord) WrongRecord

abbrev pub with_first : LogRecord → Told → Told
with_first r (Ok rs) = Ok (r ∷ rs)
with_first r (Err wrong) = Err wrong

-- a record at a place, where the cases with these names came before, and what the records behind it tell then
abbrev pub told_by : ℕ → List Bytes → (List Bytes → Told) → Option LogRecord → Told
told_by at names rest None = Err (record { index = at; why = fault.Form })
told_by at names rest (Some r) = if are_too_many (noted names r.case) then Err (record { index = at; why = fault.Cases }) else with_first r (rest (noted names r.case))

abbrev pub told_from : (nodes elements : List Bytes) → ℕ → List Bytes → List Fields → Told
told_from nodes elements at names [] = Ok []
told_from nodes elements at names (fs ∷ rest) =
    told_by at names (λ more. told_from nodes elements (at + 1) more rest) (record_of nodes elements fs)

-- the first record, which is counted as 1, names the fields
abbrev pub headless : Told
headless = Err (record { index = 1; why = fault.Head })

abbrev pub told_behind : (nodes elements : List Bytes) → List Fields → Told
told_behind nodes elements [] = headless
told_behind nodes elements (fs ∷ rest) = if is_head fs then told_from nodes elements 2 [] rest else headless

abbrev pub told : (nodes elements : List Bytes) → Bytes → Told
told nodes elements log = told_behind nodes elements (records_of log)

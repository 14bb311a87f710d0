-- The totals of a report.
use Rattle.std.specs.{Prelude.{ℕ, Bool, false, List, ◌++◌, length, Option, Some, None, codes, decimal}, List.{count_by, sum_by}}
use Rattle.case_core.specs.{CaseModel.LiveModel, Shown.is_finished}
use Rattle.file_words.specs.Lines.{Bytes}
use Rattle.report_words.specs.Migrations.{with_fate}
use Rattle.report_words.specs.declared.totals.Fate.TheVariants as fate
use Rattle.script_run.specs.declared.runs.ClosedCase.{ClosedCase}

-- whether a case is finished
abbrev pub is_done_live : Option LiveModel → Bool
is_done_live None = false
is_done_live (Some l) = is_finished l

abbrev pub is_done : ClosedCase → Bool
is_done c = is_done_live c.machine.live

abbrev pub calls_of : ClosedCase → ℕ
calls_of c = length c.journal

-- the cases, how many of them are finished, and how many calls were made of them
abbrev pub case_totals : List ClosedCase → Bytes
case_totals cases =
    codes "summary cases=" ++ (decimal (length cases)
    ++ (codes " finished=" ++ (decimal (count_by is_done cases)
    ++ (codes " entries=" ++ (decimal (sum_by calls_of cases) ++ codes " ")))))

-- what became of the migrations of cases
abbrev pub migration_totals : List ClosedCase → Bytes
migration_totals cases =
    codes "migrated=" ++ (decimal (sum_by (with_fate fate.Migrated) cases)
    ++ (codes " blocked=" ++ (decimal (sum_by (with_fate fate.Blocked) cases)
    ++ (codes " overlap=" ++ (decimal (sum_by (with_fate fate.Overlap) cases) ++ codes "\n")))))

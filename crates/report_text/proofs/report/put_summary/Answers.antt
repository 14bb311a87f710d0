use Rattle.report_text.proofs.Common.{ap, case_totals, gives_as, gives_then, migration_totals}
use Rattle.report_text.proofs.report.put_summary.Goals as goal

pub returns : goal.returns
returns g c =
    gives_then _ _ _ _ _ _ _ _ _ _
    (gives_as _ _ _ _ _ _ _ _ c.put_case_totals-ok.ensures (ap case_totals c.as_slice.ensures))
    (gives_as _ _ _ _ _ _ _ _ c.put_migration_totals.ensures (ap migration_totals c.as_slice-2.ensures))

use Rattle.report_text.proofs.Common.{gives_then}
use Rattle.report_text.proofs.report.put_report.Goals as goal

pub returns : goal.returns
returns g c =
    gives_then _ _ _ _ _ _ _ _ _ _ c.put_first_line-ok.ensures
    (gives_then _ _ _ _ _ _ _ _ _ _ c.put_all_kinds-ok.ensures
    (gives_then _ _ _ _ _ _ _ _ _ _ c.put_all_cases-ok.ensures c.put_summary.ensures))

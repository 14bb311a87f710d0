use Rattle.report_text.proofs.Common.{gives_then}
use Rattle.report_text.proofs.case_lines.put_case_line.Goals as goal

pub returns : goal.returns
returns g c =
    gives_then _ _ _ _ _ _ _ _ _ _ c.put_line_start-ok.ensures
    (gives_then _ _ _ _ _ _ _ _ _ _ c.put_event-ok.ensures
    (gives_then _ _ _ _ _ _ _ _ _ _ c.put-ok.ensures
    (gives_then _ _ _ _ _ _ _ _ _ _ c.put_reply-ok.ensures c.put.ensures)))

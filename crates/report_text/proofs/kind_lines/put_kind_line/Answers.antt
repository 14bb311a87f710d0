use Rattle.report_text.proofs.Common.{gives_then}
use Rattle.report_text.proofs.kind_lines.put_kind_line.Goals as goal

pub returns : goal.returns
returns g c =
    gives_then _ _ _ _ _ _ _ _ _ _ c.put_line_start-ok.ensures
    (gives_then _ _ _ _ _ _ _ _ _ _ c.put_kind_event-ok.ensures
    (gives_then _ _ _ _ _ _ _ _ _ _ c.put-ok.ensures
    (gives_then _ _ _ _ _ _ _ _ _ _ c.put_kind_reply-ok.ensures c.put.ensures)))

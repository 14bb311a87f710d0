use Rattle.report_text.proofs.Common.{gives_then}
use Rattle.report_text.proofs.checks.put_verdict.Goals as goal

pub returns : goal.returns
returns g c =
    gives_then _ _ _ _ _ _ _ _ _ _ c.put_verdict_head-ok.ensures
    (gives_then _ _ _ _ _ _ _ _ _ _ c.put_kind_reply-ok.ensures c.put.ensures)

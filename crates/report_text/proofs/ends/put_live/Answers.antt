use Rattle.report_text.proofs.Common.{gives_then}
use Rattle.report_text.proofs.ends.put_live.Goals as goal

pub returns : goal.returns
returns g c =
    gives_then _ _ _ _ _ _ _ _ _ _ c.put_state_line-ok.ensures
    (gives_then _ _ _ _ _ _ _ _ _ _ c.put_marking_line-ok.ensures
    (gives_then _ _ _ _ _ _ _ _ _ _ c.put_values_line-ok.ensures c.put_items_line.ensures))

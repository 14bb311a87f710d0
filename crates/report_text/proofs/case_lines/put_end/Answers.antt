use Rattle.report_text.proofs.Common.{ap, assigned, flat_map, gives_as, gives_then}
use Rattle.report_text.proofs.case_lines.put_end.Goals as goal

pub returns : goal.returns
returns g c =
    gives_then _ _ _ _ _ _ _ _ _ _ c.put_of_node-ok.ensures
    (gives_then _ _ _ _ _ _ _ _ _ _ c.put_choice-ok.ensures
    (gives_as _ _ _ _ _ _ _ _ c.put_writes.ensures (ap (flat_map (assigned c.args.file.now)) c.as_slice.ensures)))

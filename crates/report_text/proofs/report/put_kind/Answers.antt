use Rattle.report_text.proofs.Common.{ap, gives_as, gives_then, kind_line, numbered}
use Rattle.report_text.proofs.report.put_kind.Goals as goal

pub returns : goal.returns
returns g c =
    gives_then _ _ _ _ _ _ _ _ _ _ c.put_type_head-ok.ensures
    (gives_as _ _ _ _ _ _ _ _ c.put_kind_journal.ensures (ap (numbered (kind_line c.args.file.now) 1) c.as_slice.ensures))

use Rattle.report_text.proofs.Common.{ap, flat_map, gives_as, gives_then, sound_line, verdict_line}
use Rattle.report_text.proofs.checks.put_check.Goals as goal

pub returns : goal.returns
returns g c =
    gives_then _ _ _ _ _ _ _ _ _ _
    (gives_as _ _ _ _ _ _ _ _ c.put_sound_types-ok.ensures (ap (flat_map sound_line) c.as_slice.ensures))
    (gives_as _ _ _ _ _ _ _ _ c.put_verdicts.ensures (ap (flat_map (verdict_line c.args.file.now)) c.as_slice-2.ensures))

use Rattle.report_text.proofs.Common.{gives_item, sound_line}
use Rattle.report_text.proofs.checks.put_sound_types.Goals as goal

pub loop-decl-preserved : goal.loop-decl-preserved
loop-decl-preserved g c =
    gives_item _ _ _ _ _ _ _ _ sound_line c.args.types.now c.loop-decl.decl-index c.decl-item.result c.decl-item.is
    c.loop-decl-test.true c.loop-decl.invariant c.put_sound-well.ensures

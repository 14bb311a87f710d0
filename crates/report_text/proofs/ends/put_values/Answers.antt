use Rattle.report_text.proofs.Common.{gives_row, value_now_text}
use Rattle.report_text.proofs.ends.put_values.Goals as goal

pub loop-element-preserved : goal.loop-element-preserved
loop-element-preserved g c =
    gives_row _ _ _ _ _ _ _ _ (value_now_text c.args.file.now c.args.live.now) c.args.elements.now c.loop-element.element-index _
    c.loop-element-test.true c.loop-element.invariant c.put_value_now-well.ensures

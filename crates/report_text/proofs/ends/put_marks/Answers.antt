use Rattle.report_text.proofs.Common.{gives_item, mark_text}
use Rattle.report_text.proofs.ends.put_marks.Goals as goal

pub loop-card-preserved : goal.loop-card-preserved
loop-card-preserved g c =
    gives_item _ _ _ _ _ _ _ _ (mark_text c.args.file.now c.args.live.now) c.args.cards.now c.loop-card.card-index c.card-item.result c.card-item.is
    c.loop-card-test.true c.loop-card.invariant c.put_mark-well.ensures

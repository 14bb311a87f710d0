use Rattle.report_text.proofs.Common.{ℕ, gives_row, Item, item_text}
use Rattle.report_text.proofs.ends.put_items.Goals as goal

pub loop-row-preserved : goal.loop-row-preserved
loop-row-preserved g c =
    gives_row _ _ _ _ _ _ _ _ (λ (r : ℕ × Item). item_text c.args.file.now r.1) c.args.items.now c.loop-row.row-index _
    c.loop-row-test.true c.loop-row.invariant c.put_item-well.ensures

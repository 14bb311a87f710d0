use Rattle.talk_answers.proofs.Common.{ℕ, gives_row, Item, line_if_concerned}
use Rattle.talk_answers.proofs.items.put_item_lines.Goals as goal

pub loop-row-preserved : goal.loop-row-preserved
loop-row-preserved g c =
    gives_row _ _ _ _ _ _ _ _ (λ (r : ℕ × Item). line_if_concerned c.args.file.now c.args.actor c.args.decl.now r.1) c.args.items.now c.loop-row.row-index _
    c.loop-row-test.true c.loop-row.invariant c.put_if_concerned-well.ensures

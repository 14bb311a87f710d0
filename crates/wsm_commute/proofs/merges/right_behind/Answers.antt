use Rattle.wsm_commute.proofs.TwoLists.{other-order, never-refused}
use Rattle.wsm_commute.proofs.merges.right_behind.Goals as goal

pub returns-in-Ok-clause-right_first : goal.returns-in-Ok-clause-right_first
returns-in-Ok-clause-right_first c =
    other-order c.args.base.now c.args.middle.now c.in_ok-right_alone.field-0 c.args.left.now c.args.right.now c.requires.ordered c.requires.left_first c.in_ok-right_alone.ensures.ok c.in_ok-no_overlap.ensures.ok c.in-Ok.new c.in-Ok.ensures.ok

pub unreachable-requires : goal.unreachable-requires
unreachable-requires c =
    let refused = rw c.in-Err-Fault.field-0-is at c.in-Err-Fault.ensures.fault in
    never-refused c.args.base.now c.args.middle.now c.in_ok-right_alone.field-0 c.args.left.now c.args.right.now c.requires.ordered c.requires.left_first
    c.in_ok-right_alone.ensures.ok c.in_ok-no_overlap.ensures.ok c.in-Err-Fault.field-0-0 refused

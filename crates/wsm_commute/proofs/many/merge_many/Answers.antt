use Rattle.wsm_commute.proofs.{Common.{◌∙◌, ap, first_overlap, first_refused, in_order, sym}, ManyLists.{every-order, no-fault}}
use Rattle.wsm_commute.proofs.many.merge_many.Goals as goal

pub unreachable-requires : goal.unreachable-requires
unreachable-requires c =
    let refused = rw c.in-Err-Fault.field-0-is at c.in-Err-Fault.ensures.fault in
    no-fault c.args.base.now c.as_slice-lists.result.now c.read_lists.ensures c.in_ok-each_alone.ensures.ok c.in_ok-no_two_overlap.ensures.ok c.in-Err-Fault.field-0-0 refused

pub returns-in-Ok-clause-every_order : goal.returns-in-Ok-clause-every_order
returns-in-Ok-clause-every_order c =
    let is = c.as_slice-lists.ensures in
    every-order c.args.base.now c.args.lists.now c.read_lists.ensures (ap (first_refused 1 c.args.base.now) (sym is) ∙ c.in_ok-each_alone.ensures.ok) (ap (first_overlap 1) (sym is) ∙ c.in_ok-no_two_overlap.ensures.ok)
    c.in-Ok.new (ap (in_order c.args.base.now) (sym is) ∙ c.in-Ok.ensures.ok)

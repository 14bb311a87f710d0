use Rattle.wsm_ops.proofs.{Common.{applied, arith, IsOpFault, rules, subst, sym}, Steps.{step_goes_on, step_stops, no_more}, Distinct.{IsDistinct, applied-distinct}}
use Rattle.wsm_ops.proofs.applications.apply.Goals as goal

pub returns-in_err-draft-2-clause-fault : goal.returns-in_err-draft-2-clause-fault
returns-in_err-draft-2-clause-fault c =
    let fault : IsOpFault (applied c.args.schema.now c.args.ops.now) c.in_err-draft-2.field-0.0 =
    rw (← c.as_slice-op-items.ensures)
    (step_stops c.args.schema.now c.loop-i.draft c.as_slice-op-items.result.now c.loop-i.i _ _ (omega arith) c.in_err-draft-2.ensures.fault c.loop-i.invariant)
    in
    search rules

pub loop-i-preserved : goal.loop-i-preserved
loop-i-preserved c =
    step_goes_on c.args.schema.now c.loop-i.draft c.in_ok-draft-2.draft c.as_slice-op-items.result.now c.loop-i.i _ (omega arith) c.in_ok-draft-2.ensures.ok c.loop-i.invariant

pub returns-clause-distinct : goal.returns-clause-distinct
returns-clause-distinct c =
    subst IsDistinct (sym c.in_ok-into_schema.ensures)
    (applied-distinct c.as_slice-op-items.result.now 1 c.args.schema.now c.loop-i.draft c.requires.distinct
    (no_more c.args.schema.now c.loop-i.draft c.as_slice-op-items.result.now c.loop-i.i (omega arith) c.loop-i.invariant))

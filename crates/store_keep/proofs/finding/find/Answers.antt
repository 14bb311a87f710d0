use Rattle.store_keep.proofs.{Common.{◌+◌, ◌∙◌, arith, refl, sym, take_rest}, Matching.{differs-here, goes-on}}
use Rattle.store_keep.proofs.finding.find.Goals as goal

pub returns-then-not-branch-clause-found : goal.returns-then-not-branch-clause-found
returns-then-not-branch-clause-found c =
    differs-here c.loop-len.invariant c.in-Record.len c.in-Record.ensures (sym c.in_ok-is_call-in-Record.ensures ∙ c.if-not-branch.true)

pub loop-len-preserved : goal.loop-len-preserved
loop-len-preserved c =
    let l = c.loop-len in
    goes-on l.invariant c.in-Record.len c.in-Record.ensures _ _ _ (take_rest l.rest.now (5 + c.in-Record.len)) refl (omega arith)
    (sym c.in_ok-is_call-in-Record.ensures ∙ c.if-not-branch.false)

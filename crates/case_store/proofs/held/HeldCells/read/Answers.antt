use Rattle.case_store.proofs.{Common.{◌+◌, arith, take_rest}, Folds.{begins, goes-further, is-cut, refused-here}}
use Rattle.case_store.proofs.held.HeldCells.read.Goals as goal

pub loop-held-init : goal.loop-held-init
loop-held-init c = begins c.args.counts.now c.args.image.now c.in_ok-held.held c.in_ok-held.ensures

pub returns-in-Damaged-clause-damaged : goal.returns-in-Damaged-clause-damaged
returns-in-Damaged-clause-damaged c = is-cut c.loop-held.invariant c.requires.gate (c.in-Damaged.ensures c.loop-held.place)

pub returns-then-not-branch-clause-damaged : goal.returns-then-not-branch-clause-damaged
returns-then-not-branch-clause-damaged c =
    refused-here c.loop-held.invariant c.in-Record.len c.in-Record.ensures _ _ c.requires.gate c.if-not-branch.true c.in_ok-take_in-in-Record.ensures.taken

pub loop-held-preserved : goal.loop-held-preserved
loop-held-preserved c =
    let told = c.in_ok-take_in-in-Record.ensures in
    goes-further c.loop-held.invariant c.in-Record.len c.in-Record.ensures _ _ _ c.if-not-branch.false told.taken told.young (take_rest c.loop-held.rest.now (5 + c.in-Record.len)) (omega arith)

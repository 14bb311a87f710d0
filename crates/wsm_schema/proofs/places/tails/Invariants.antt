use Rattle.wsm_schema.proofs.Common.{◌++◌, ◌≡◌, branch_tails, drop, lanes, lanes_of}
use Rattle.wsm_schema.proofs.places.tails.Given as goal

abbrev pub invariant-loop-branch : goal.invariant-loop-branch
invariant-loop-branch l = l.all.items ++ branch_tails (lanes (lanes_of (drop l.branch-index l.branches))) l.split ≡ branch_tails (lanes (lanes_of l.branches)) l.split

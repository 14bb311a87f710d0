use Rattle.wsm_schema.proofs.Common.{◌++◌, ◌≡◌, branch_heads, drop, lanes, lanes_of}
use Rattle.wsm_schema.proofs.places.heads.Given as goal

abbrev pub invariant-loop-branch : goal.invariant-loop-branch
invariant-loop-branch l = l.all.items ++ branch_heads (lanes (lanes_of (drop l.branch-index l.branches))) l.join ≡ branch_heads (lanes (lanes_of l.branches)) l.join

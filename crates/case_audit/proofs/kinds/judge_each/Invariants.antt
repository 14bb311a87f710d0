use Rattle.case_audit.proofs.Common.{InKinds}
use Rattle.case_audit.proofs.kinds.judge_each.Given as goal

abbrev pub invariant-loop-index : goal.invariant-loop-index
invariant-loop-index l = InKinds l.file l.fn.report l.report l.kinds.items l.index

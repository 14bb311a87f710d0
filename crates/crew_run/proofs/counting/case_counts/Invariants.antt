use Rattle.crew_run.proofs.{Common.length, CasesCounted.CountedUpTo}
use Rattle.crew_run.proofs.counting.case_counts.Given as goal

abbrev pub invariant-loop-decl : goal.invariant-loop-decl
invariant-loop-decl l = CountedUpTo l.decl-index (length l.file.types) l.file.cases l.counts.items

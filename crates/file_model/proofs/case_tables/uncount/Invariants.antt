use Rattle.file_model.proofs.Common.{◌≤◌, AreCounted, length, min, take}
use Rattle.file_model.proofs.case_tables.uncount.Given as goal

abbrev pub invariant-loop-left : goal.invariant-loop-left
invariant-loop-left l = record {
  within : l.left ≤ length l.cases;
  least : min l.len (length l.cases) ≤ l.left;
  counted : AreCounted l.counts.items (take l.left l.cases);
}

abbrev pub decreases-loop-left : goal.decreases-loop-left
decreases-loop-left l = l.left

use Rattle.std.proofs.Common.{◌≡◌, ◌≤◌, take}
use Rattle.std.specs.List.{count_by}
use Rattle.report_words.specs.Totals.{is_done}
use Rattle.report_words.proofs.totals.count_done.Given as goal

abbrev pub invariant-loop-case : goal.invariant-loop-case
invariant-loop-case l = (l.count ≡ count_by is_done (take l.case-index l.cases)) × (l.count ≤ l.case-index)

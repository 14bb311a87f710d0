use Rattle.std.proofs.Common.{◌≡◌, ◌≤◌, take}
use Rattle.std.specs.List.{count_by}
use Rattle.report_words.specs.Migrations.{has_fate}
use Rattle.report_words.proofs.totals.count.Given as goal

abbrev pub invariant-loop-entry : goal.invariant-loop-entry
invariant-loop-entry l = (l.count ≡ count_by (has_fate l.fate) (take l.entry-index l.journal)) × (l.count ≤ l.entry-index)

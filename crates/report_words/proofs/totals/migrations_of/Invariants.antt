use Rattle.std.proofs.Common.{ℕ, ◌≡◌, ◌≤◌, ◌*◌, ◌^◌, take}
use Rattle.std.specs.List.{sum_by}
use Rattle.report_words.specs.Migrations.{with_fate}
use Rattle.report_words.specs.declared.totals.Fate.TheVariants as fate
use Rattle.report_words.proofs.totals.migrations_of.Given as goal

abbrev pub invariant-loop-case : goal.invariant-loop-case
invariant-loop-case l =
    ((l.migrated ≡ sum_by (with_fate fate.Migrated) (take l.case-index l.cases)) × (l.migrated ≤ l.case-index * 2 ^ 64))
    × ((l.blocked ≡ sum_by (with_fate fate.Blocked) (take l.case-index l.cases)) × (l.blocked ≤ l.case-index * 2 ^ 64))
    × ((l.overlap ≡ sum_by (with_fate fate.Overlap) (take l.case-index l.cases)) × (l.overlap ≤ l.case-index * 2 ^ 64))

use Rattle.file_model.proofs.Common.{ℕ, ◌+◌, ◌-◌, ◌≡◌, length, slice_index}
use Rattle.file_model.proofs.case_tables.count_up_to.Given as goal

abbrev pub invariant-loop-counts : goal.invariant-loop-counts
invariant-loop-counts l = (t : ℕ) → slice_index l.counts.items t ≡ slice_index l.initial.counts.items t

abbrev pub decreases-loop-counts : goal.decreases-loop-counts
decreases-loop-counts l = l.type_no + 1 - length l.counts.items

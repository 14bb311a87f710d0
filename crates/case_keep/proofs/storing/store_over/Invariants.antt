use Rattle.case_keep.proofs.Common.{case_counts}
use Rattle.case_keep.proofs.storing.store_over.Given as goal

abbrev pub ghost-step_calls_of : goal.ghost-step_calls_of
ghost-step_calls_of g a = case_counts a.file.now

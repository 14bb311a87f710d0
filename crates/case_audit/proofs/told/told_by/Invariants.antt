use Rattle.case_audit.proofs.Common.{◌≡◌, deques_of, drop, fold, journal_told, with_told}
use Rattle.case_audit.proofs.told.told_by.Given as goal

abbrev pub invariant-loop-entry : goal.invariant-loop-entry
invariant-loop-entry l = fold with_told (deques_of l.told.items) (drop l.entry-index l.journal) ≡ journal_told l.actors l.journal

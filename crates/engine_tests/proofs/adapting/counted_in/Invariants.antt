use Rattle.engine_tests.proofs.adapting.counted_in.Given as goal

abbrev pub ghosts-counted-L-Ledger : goal.ghosts-counted-L-Ledger
ghosts-counted-L-Ledger a = record { name = a.marks_blank.name; parts = a.marks_blank.parts }

abbrev pub ghosts-counted-K-Ledger : goal.ghosts-counted-K-Ledger
ghosts-counted-K-Ledger a = record { name = a.trail_blank.name; parts = a.trail_blank.parts }

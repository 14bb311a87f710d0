use Rattle.case_core.proofs.instances.Instance+Trail.try_step.Given as goal

abbrev pub ghosts-try_counted : goal.ghosts-try_counted
ghosts-try_counted a = record { name = a.blank.name; parts = a.blank.parts }

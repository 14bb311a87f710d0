-- The run, and the check, that types and cases at work make up.
use Rattle.script_run.specs.{Verdicts.Checking, declared.calls.Working.Working, declared.checking.Judging.Judging, declared.runs.Run.Run}

abbrev pub run_of : Working → Run
run_of w = record { kinds = w.kinds.items; cases = w.cases.items }

abbrev pub checking_of : Judging → Checking
checking_of j = record { kinds = j.kinds.items; verdicts = j.verdicts }

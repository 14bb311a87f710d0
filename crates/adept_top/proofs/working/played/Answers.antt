use Rattle.std.proofs.{Common.{◌≡◌, sym, subst}, lemmas.Result.IfOk-weaker}
use Rattle.legal_run.proofs.Serial.{serial-legal}
use Rattle.adept_top.proofs.working.played.Goals as goal
use Rattle.legal_run.specs.Legal.{Legal}
use Rattle.script_run.specs.Serial.{serial}

pub returns-clause-legal : goal.returns-clause-legal
returns-clause-legal c =
    let file = c.args.file.now in
    IfOk-weaker c.serial_run.result (λ run. run ≡ serial file) (Legal file) (λ run is. subst (Legal file) (sym is) (serial-legal file c.requires.workable)) c.serial_run.ensures

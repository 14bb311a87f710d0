use Rattle.script_run.proofs.{Common.{◌∙◌, ap, oldest}, Aging.oldest-uncalled}
use Rattle.script_run.proofs.serial.opening.Goals as goal

pub returns-clause-age : goal.returns-clause-age
returns-clause-age c = ap oldest c.in_ok-uncalled_cases.ensures ∙ oldest-uncalled c.as_slice-2.result.now

use Rattle.script_run.proofs.{Common.{[], ◌∙◌, ◌≡◌, ap, Checking, defined_from, false, list_any, some_install, sym}, NoInstalls.idle-phases}
use Rattle.script_run.proofs.checking.verdicts.Goals as goal

pub returns-then-not-some_install : goal.returns-then-not-some_install
returns-then-not-some_install c =
    let file = c.args.file.now in
    let none : list_any some_install file.phases ≡ false = sym c.some_install.ensures ∙ c.if-not-some_install.true in
    c.new.ensures ∙ sym (ap (λ (s : Checking). s.verdicts) (idle-phases file.phases (record { kinds = defined_from 0 file.types; verdicts = [] }) none))

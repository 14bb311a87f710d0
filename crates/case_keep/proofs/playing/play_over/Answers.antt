use Rattle.case_keep.proofs.{Common.{◌∙◌, ◌≡◌, ◌⊎◌, ap, Err, subst}, Stepped.is-unwritten}
use Rattle.case_keep.proofs.playing.play_over.Goals as goal

pub returns-in-Err-clause-run : goal.returns-in-Err-clause-run
returns-in-Err-clause-run g c status =
    let is = is-unwritten c.in-Err.fault (subst (λ n. (n ≡ 0) ⊎ (n ≡ 4)) c.keep_status.ensures status) in
    c.play_file-disk.ensures.run_unwritten (c.in-Err.is ∙ ap Err is)

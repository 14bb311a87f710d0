use Rattle.turn_rows.proofs.{Common.{◌∙◌, ap, arith, position_or_len}, Flags.lowered_before}
use Rattle.turn_rows.proofs.meeting.next_called.Goals as goal

pub returns-clause-calm : goal.returns-clause-calm
returns-clause-calm c = λ p ge lt.
    let is = c.lowered_first.ensures.first ∙ ap (λ flags. position_or_len (λ flag. flag) flags) c.split_at.ensures.back in
    lowered_before c.args.called.now c.args.from p (omega arith) ge (omega (arith, lt, is))

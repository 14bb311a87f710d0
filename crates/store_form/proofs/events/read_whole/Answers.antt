use Rattle.store_form.proofs.{Common.{err_from_is_err_and, recorded_at}, Calls.{whole-done, whole-fails}}
use Rattle.store_form.proofs.events.read_whole.Goals as goal

pub returns-in_err-recorded : goal.returns-in_err-recorded
returns-in_err-recorded c =
    let p = err_from_is_err_and c.from_residual.result c.from_residual.ensures.1 in
    rw (p.1, p.2) (whole-fails c.in_err-recorded.field-0.0 (recorded_at c.args.from.now) c.in_err-recorded.ensures)

pub returns : goal.returns
returns c = whole-done (recorded_at c.args.from.now) c.in_ok-recorded.recorded c.in_ok-recorded.rest.now c.in_ok-recorded.ensures c.if-rest-gt0.false

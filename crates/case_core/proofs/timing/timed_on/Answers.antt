use Rattle.case_core.proofs.{Common.{IfOk-weaker, IsTimed, IsTimedOn}, Marked.timed-on}
use Rattle.case_core.proofs.timing.timed_on.Goals as goal

pub returns-clause-marks : goal.returns-clause-marks
returns-clause-marks c =
    let es = c.args.trail.now.trail.entries in
    IfOk-weaker c.timed.result (IsTimed c.flat.result.now es) (IsTimedOn c.args.checked.now es)
    (timed-on c.args.checked.now c.flat.ensures.checked c.flat.result.now c.flat.ensures.flat es) c.timed.ensures

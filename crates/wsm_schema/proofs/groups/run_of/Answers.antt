use Rattle.wsm_schema.proofs.Runs.{run-order, run-is}
use Rattle.wsm_schema.proofs.groups.run_of.Goals as goal

pub slice_bounds-result-count : goal.slice_bounds-result-count
slice_bounds-result-count g c = run-order c.args.number c.args.rows.now _ _ c.start_of-from.ensures.bound c.start_of-from.ensures.place c.end_of-to.ensures.place

pub slice_bounds-result-start : goal.slice_bounds-result-start
slice_bounds-result-start g c = run-order c.args.number c.args.rows.now _ _ c.start_of-from.ensures.bound c.start_of-from.ensures.place c.end_of-to.ensures.place

pub returns : goal.returns
returns g c = run-is c.args.number c.args.rows.now _ _ c.start_of-from.ensures.bound c.end_of-to.ensures.bound c.start_of-from.ensures.place c.end_of-to.ensures.place

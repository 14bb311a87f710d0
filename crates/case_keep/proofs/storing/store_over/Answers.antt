use Rattle.case_keep.proofs.Stepped.{run-of}
use Rattle.case_keep.proofs.storing.store_over.Goals as goal

pub returns-in-Ok-clause-run : goal.returns-in-Ok-clause-run
returns-in-Ok-clause-run g c =
    let k = g.D.Disk in
    run-of k.content k.may_leave c.args.file.now c.step_calls_of-stored.new.store c.abandon.result c.step_calls_of-stored.result c.abandon.ensures c.step_calls_of-stored.ensures.all c.step_calls_of-stored.ensures.serial

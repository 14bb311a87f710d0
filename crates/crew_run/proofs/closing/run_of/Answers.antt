use Rattle.crew_run.proofs.{Common.AllZip-long, SideBySide.zip-both}
use Rattle.crew_run.proofs.closing.run_of.Goals as goal

pub returns : goal.returns
returns c =
    let f = c.args.file.now in
    let cases = c.in_ok-closed_cases.field-0 in
    let are = c.in_ok-closed_cases.ensures in
    record { kinds = c.in_ok-closed_kinds.ensures; decls = AllZip-long _ f.cases cases are; cases = zip-both _ f.cases cases are }

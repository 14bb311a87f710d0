use Rattle.crew_run.proofs.{Common.{desk_view, get_or, subst, sym, WorksLines}, LineByLine.roles-at}
use Rattle.crew_run.proofs.phases.fn.work_side_by_side.work_own.Goals as goal

pub returns : goal.returns
returns g c =
    let v = desk_view c.args.worker.now.desk in
    let w = desk_view c.work.new.desk in
    let roles = roles-at c.captures.file.now c.as_slice.result.now v.number c.args.index c.index-as_slice-index.result c.as_slice.ensures c.requires.3.0 c.requires.2 in
    (c.work.ensures.desk, subst (λ rs. WorksLines rs c.captures.lines.now c.err-worker.result v w) roles (subst (λ o. WorksLines (get_or c.as_slice.result.now c.args.index c.index-as_slice-index.result).roles c.captures.lines.now o v w) (sym c.err-worker.ensures.value) c.work.ensures.worked))

use Rattle.crew_run.proofs.{Common.{◌∙◌, arith, desk_view, get_or, IfErr-weaker, length, on_ok_weaker, slice_get-get_or}, DesksCanWork.{can-work, knows-same, shape-of}, DesksMeet.beside-shape, PhaseWorked.{crew-behind, full-behind}}
use Rattle.crew_run.proofs.PhaseWorked.{no-fault, phase-worked, worked-desks, worked-level}
use Rattle.crew_run.proofs.phases.work_phase.Goals as goal

pub work_lines-requires-clause-ready : goal.work_lines-requires-clause-ready
work_lines-requires-clause-ready g c κs within = λ i d low.
    let k = c.requires.crew in
    let f = c.args.file.now in
    let worker = get_or c.args.crew.now i d in
    let at = slice_get-get_or c.args.crew.now i d low in
    let one = k.each i worker at in
    let v = desk_view c.args.first.now in
    let w = desk_view worker.desk in
    (one.number ∙ (omega arith), k.desks i worker at, can-work f c.requires.file w (shape-of f v w (beside-shape v w one.same) k.shape) (knows-same (length f.types) v w one.same c.requires.knows) c.args.lines.now c.requires.lines)

pub meet_all-requires-clause-crew : goal.meet_all-requires-clause-crew
meet_all-requires-clause-crew g c = worked-desks c.args.server.now c.args.file.now c.args.lines.now c.args.first.now c.args.crew.now c.work_lines.new.crew c.requires.crew c.work_lines.auto.crew c.work_lines.ensures

pub meet_all-requires-clause-level : goal.meet_all-requires-clause-level
meet_all-requires-clause-level g c =
    worked-level c.args.server.now c.args.file.now c.args.lines.now c.args.first.now c.args.crew.now c.work_lines.new.crew c.requires.crew c.work_lines.auto.crew c.work_lines.ensures c.note_lines.new.called c.note_lines.ensures.kinds c.note_lines.ensures.cases

pub returns-clause-crew : goal.returns-clause-crew
returns-clause-crew g c =
    crew-behind c.args.server.now c.args.file.now c.args.lines.now c.args.first.now c.args.crew.now c.work_lines.new.crew c.requires.crew c.work_lines.auto.crew c.work_lines.ensures
    c.meet_all.new.first c.meet_all.new.crew c.meet_all.auto.crew c.meet_all.ensures.first.0 c.meet_all.ensures.first.1 c.meet_all.ensures.met

pub returns-clause-worked : goal.returns-clause-worked
returns-clause-worked g c =
    let p =
    phase-worked c.args.server.now c.args.file.now c.args.lines.now c.args.first.now c.args.crew.now c.work_lines.new.crew c.requires.crew c.work_lines.auto.crew c.work_lines.ensures
    c.meet_all.new.first c.meet_all.new.crew c.meet_all.auto.crew c.meet_all.ensures.first.0 c.meet_all.ensures.first.1 c.meet_all.ensures.met in
    (p.0, p.1, on_ok_weaker c.outcome.result (λ none. p.2 (no-fault c.meet_all.new.crew none)) c.outcome.ensures.well)

pub returns-clause-full : goal.returns-clause-full
returns-clause-full g c =
    IfErr-weaker c.outcome.result _ _
    (λ fault any is.
    full-behind c.args.server.now c.args.file.now c.args.lines.now c.args.first.now c.args.crew.now c.work_lines.new.crew c.requires.crew c.work_lines.auto.crew c.work_lines.ensures
    c.meet_all.new.first c.meet_all.new.crew c.meet_all.auto.crew c.meet_all.ensures.first.0 c.meet_all.ensures.first.1 c.meet_all.ensures.met (any is))
    c.outcome.ensures.full

use Rattle.crew_run.proofs.{Common.{[], ◌∙◌, ◌≡◌, ap, AreLevelDesks, desk_view, IsAlong, IsDeskOf, IsOverfull, KnowsTypes, length, subst}, CrewAlong.{begun, few-none}, DesksCanWork.knows-heard, DesksMeet.{all-level, heard-is-more}}
use Rattle.crew_run.proofs.{FullSeen.{if_err-same, many-seen}, SideBySide.all-of}
use Rattle.turn_cell.specs.declared.faults.CallFault.TheVariants as fault
use Rattle.crew_run.proofs.crews.work_file.Goals as goal

pub meet_all-requires-clause-crew : goal.meet_all-requires-clause-crew
meet_all-requires-clause-crew g c = all-of (λ w. IsDeskOf c.args.server.now w.desk) c.args.crew.now (λ i w at. (c.requires.hired.each i w at).0)

pub meet_all-requires-clause-level : goal.meet_all-requires-clause-level
meet_all-requires-clause-level g c =
    let v = desk_view c.define_types-defined.new.desk in
    all-of (λ w. AreLevelDesks c.args.called.now v (desk_view w.desk)) c.args.crew.now (λ i w at. all-level c.args.called.now c.requires.called.1 v (desk_view w.desk))

pub returns-in_err-defined-clause-crew : goal.returns-in_err-defined-clause-crew
returns-in_err-defined-clause-crew g c =
    let (done, defines, whole) = c.define_types-defined.ensures.defines in
    (begun c.args.server.now c.args.file.now _ done c.args.first.now _ c.meet_all.new.first c.args.crew.now c.meet_all.new.crew c.requires.hired c.requires.actors c.requires.shape c.as_slice.ensures defines c.meet_all.ensures.first c.meet_all.ensures.met c.meet_all.auto.crew).0

pub returns-in_err-defined-clause-full : goal.returns-in_err-defined-clause-full
returns-in_err-defined-clause-full g c =
    let f = c.args.file.now in
    let first = desk_view c.meet_all.new.first in
    let v = desk_view c.define_types-defined.new.desk in
    let (done, defines, whole) = c.define_types-defined.ensures.defines in
    let along = (begun c.args.server.now c.args.file.now _ done c.args.first.now _ c.meet_all.new.first c.args.crew.now c.meet_all.new.crew c.requires.hired c.requires.actors c.requires.shape c.as_slice.ensures defines c.meet_all.ensures.first c.meet_all.ensures.met c.meet_all.auto.crew).1 in
    if_err-same (λ x. x ≡ fault.Full → IsOverfull f first c.meet_all.new.crew) c.from_residual.result c.in_err-defined.field-0.0 c.from_residual.ensures.1
    (λ is. record { done = done; phases = 0; traces = []; few = few-none f; along = along; many = many-seen v first (heard-is-more v first c.meet_all.ensures.first.1) (c.in_err-defined.ensures.full is) })

pub work_phases-requires-clause-crew : goal.work_phases-requires-clause-crew
work_phases-requires-clause-crew g c κs within =
    let (done, defines, whole) = c.in_ok-defined.ensures.defines in
    (begun c.args.server.now c.args.file.now _ done c.args.first.now _ c.meet_all.new.first c.args.crew.now c.meet_all.new.crew c.requires.hired c.requires.actors c.requires.shape c.as_slice.ensures defines c.meet_all.ensures.first c.meet_all.ensures.met c.meet_all.auto.crew).0

pub work_phases-requires-clause-knows : goal.work_phases-requires-clause-knows
work_phases-requires-clause-knows g c κs within =
    let v = desk_view c.define_types-defined.new.desk in
    knows-heard (length c.args.file.now.types) v (desk_view c.meet_all.new.first) c.meet_all.ensures.first.1 (subst (λ types. KnowsTypes (length types) v) c.as_slice.ensures c.in_ok-defined.ensures.known)

pub work_phases-requires-clause-along : goal.work_phases-requires-clause-along
work_phases-requires-clause-along g c κs within =
    let (done, defines, whole) = c.in_ok-defined.ensures.defines in
    let along = (begun c.args.server.now c.args.file.now _ done c.args.first.now _ c.meet_all.new.first c.args.crew.now c.meet_all.new.crew c.requires.hired c.requires.actors c.requires.shape c.as_slice.ensures defines c.meet_all.ensures.first c.meet_all.ensures.met c.meet_all.auto.crew).1 in
    subst (λ n. IsAlong c.args.file.now n [] (desk_view c.meet_all.new.first) c.meet_all.new.crew) (whole ∙ ap length c.as_slice.ensures) along

use Rattle.crew_run.proofs.{Common.{[], ◌++◌, ◌+◌, ◌∙◌, ◌∷◌, ◌≡◌, ap, AreTraces, arith, desk_view, IsOverfull, length, subst, sym, take}, CrewAlong.{along-then, few-none, few-then, traces-push}, DesksCanWork.knows-heard}
use Rattle.crew_run.proofs.{FullSeen.if_err-same, SideBySide.took-at}
use Rattle.std.proofs.Common.{take_all}
use Rattle.turn_cell.specs.declared.faults.CallFault.TheVariants as fault
use Rattle.crew_run.proofs.phases.work_phases.Goals as goal

pub loop-lines-init : goal.loop-lines-init
loop-lines-init g c = record { crew = c.requires.crew; knows = c.requires.knows; called = c.requires.called; along = ([], tt, few-none c.args.file.now, c.requires.along) }

pub returns-in_err-work_phase-clause-full : goal.returns-in_err-work_phase-clause-full
returns-in_err-work_phase-clause-full g c =
    let f = c.args.file.now in
    let i = c.loop-lines.lines-index in
    let e = c.in_err-work_phase.ensures in
    let then = c.work_phase.new.first in
    let new = c.work_phase.new.crew in
    let (traces, fit, few, along) = c.loop-lines.invariant.along in
    let (trace, worked, whole) = e.worked in
    let took = took-at c.as_slice-lines-items.result.now f.phases i c.lines-item.result c.as_slice-lines-items.ensures c.loop-lines-test.true c.lines-item.is in
    if_err-same (λ x. x ≡ fault.Full → IsOverfull f (desk_view then) new) c.from_residual.result c.in_err-work_phase.field-0.0 c.from_residual.ensures.1
    (λ is. record {
      done = length f.types;
      phases = i + 1;
      traces = traces ++ trace ∷ [];
      few = few-then f i traces c.lines-item.result trace c.loop-lines.crew new took few worked;
      along = along-then c.args.server.now f (length f.types) traces c.lines-item.result trace (desk_view c.loop-lines.first) then c.loop-lines.crew new along worked e.heard e.crew;
      many = e.full is;
    })

pub loop-lines-preserved : goal.loop-lines-preserved
loop-lines-preserved g c =
    let f = c.args.file.now in
    let i = c.loop-lines.lines-index in
    let lines = c.lines-item.result in
    let e = c.in_ok-work_phase.ensures in
    let then = c.work_phase.new.first in
    let new = c.work_phase.new.crew in
    let (traces, fit, few, along) = c.loop-lines.invariant.along in
    let (trace, worked, whole) = e.worked in
    let took = took-at c.as_slice-lines-items.result.now f.phases i lines c.as_slice-lines-items.ensures c.loop-lines-test.true c.lines-item.is in
    record {
      crew = e.crew;
      knows = knows-heard (length f.types) (desk_view c.loop-lines.first) (desk_view then) e.heard c.loop-lines.invariant.knows;
      called = e.called ∙ c.loop-lines.invariant.called;
      along = (
        traces ++ trace ∷ [],
        subst (λ phases. AreTraces f phases (traces ++ trace ∷ [])) (sym took) (traces-push f (take i f.phases) traces lines trace fit whole),
        few-then f i traces lines trace c.loop-lines.crew new took few worked,
        along-then c.args.server.now f (length f.types) traces lines trace (desk_view c.loop-lines.first) then c.loop-lines.crew new along worked e.heard e.crew,
      );
    }

pub returns-clause-done : goal.returns-clause-done
returns-clause-done g c =
    let f = c.args.file.now in
    let i = c.loop-lines.lines-index in
    let (traces, fit, few, along) = c.loop-lines.invariant.along in
    let all = take_all i f.phases (omega (arith, c.loop-lines-test.false, ap length c.as_slice-lines-items.ensures)) in
    (traces, subst (λ phases. AreTraces f phases traces) all fit, along)

use Rattle.case_audit.proofs.Common.{◌++◌, ◌+◌, AllRows, asked_in, calls_in, defined_line, FollowedBy, InPhases, IsModest, kinds, owed_lines, owed_of, phase-on, phase-stops, PhaseJudged, phases-begun, phases-whole, refl, subst, sym}
use Rattle.case_audit.proofs.{Common.type_head, KindParts.{front-wrong, journal-wrong, kind-right}, OwedPhases.{phase-at, phase-end, row-at}}
use Rattle.case_audit.proofs.kinds.judge_kind.Goals as goal

pub returns-then-not-branch : goal.returns-then-not-branch
returns-then-not-branch c =
    let f = c.args.file.now in
    let d = c.args.decl.now in
    let kind = c.in_ok-kind.kind in
    let new = c.follow.new.report in
    front-wrong f c.args.number d kind c.args.report.now new c.in_ok-kind.ensures (subst (FollowedBy (type_head d ++ defined_line f kind) c.args.report.now new) c.if-not-branch.true c.in_ok-follow.ensures)

pub loop-phase-init : goal.loop-phase-init
loop-phase-init c = phases-begun (kinds c.args.file.now) c.in_ok-kind.kind c.follow.new.report (owed_of c.args.owed.now)

pub judge_phase-requires-clause-modest : goal.judge_phase-requires-clause-modest
judge_phase-requires-clause-modest c =
    let at = phase-at c.args.owed.now c.as_slice-phase-items.result.now c.loop-phase.phase-index c.phase-item.result c.as_slice-phase-items.ensures.value c.loop-phase-test.true c.phase-item.is in
    subst (λ ls. AllRows IsModest (asked_in ls)) (sym c.as_slice.ensures.value) (row-at (AllRows IsModest) (owed_of c.args.owed.now) c.loop-phase.phase-index (calls_in c.phase-item.result) c.requires.modest at.low at.is)

pub returns-then-not-branch-2 : goal.returns-then-not-branch-2
returns-then-not-branch-2 c =
    let f = c.args.file.now in
    let at = phase-at c.args.owed.now c.as_slice-phase-items.result.now c.loop-phase.phase-index c.phase-item.result c.as_slice-phase-items.ensures.value c.loop-phase-test.true c.phase-item.is in
    let judged = subst (λ b. PhaseJudged (kinds f) c.loop-phase.kind c.loop-phase.report c.judge_phase.new.kind c.judge_phase.new.report (calls_in c.phase-item.result) b) c.if-not-branch-2.true
    (subst (λ ls. PhaseJudged (kinds f) c.loop-phase.kind c.loop-phase.report c.judge_phase.new.kind c.judge_phase.new.report (asked_in ls) c.in_ok-judge_phase.field-0) c.as_slice.ensures.value c.in_ok-judge_phase.ensures) in
    let d = c.args.decl.now in
    let kind = c.in_ok-kind.kind in
    let mid = c.follow.new.report in
    let new = c.judge_phase.new.report in
    let front = subst (FollowedBy (type_head d ++ defined_line f kind) c.args.report.now mid) c.if-not-branch.false c.in_ok-follow.ensures in
    journal-wrong f c.args.number d kind c.args.report.now mid new (owed_lines (owed_of c.args.owed.now)) c.in_ok-kind.ensures front c.requires.owed
    (phase-stops (kinds f) (λ p ps. refl) kind c.loop-phase.kind c.judge_phase.new.kind mid c.loop-phase.report new (owed_of c.args.owed.now) c.loop-phase.phase-index (calls_in c.phase-item.result) at.low at.is c.loop-phase.invariant judged)

pub loop-phase-preserved : goal.loop-phase-preserved
loop-phase-preserved c =
    let f = c.args.file.now in
    let at = phase-at c.args.owed.now c.as_slice-phase-items.result.now c.loop-phase.phase-index c.phase-item.result c.as_slice-phase-items.ensures.value c.loop-phase-test.true c.phase-item.is in
    let judged = subst (λ b. PhaseJudged (kinds f) c.loop-phase.kind c.loop-phase.report c.judge_phase.new.kind c.judge_phase.new.report (calls_in c.phase-item.result) b) c.if-not-branch-2.false
    (subst (λ ls. PhaseJudged (kinds f) c.loop-phase.kind c.loop-phase.report c.judge_phase.new.kind c.judge_phase.new.report (asked_in ls) c.in_ok-judge_phase.field-0) c.as_slice.ensures.value c.in_ok-judge_phase.ensures) in
    phase-on (kinds f) (λ p ps. refl) c.in_ok-kind.kind c.loop-phase.kind c.judge_phase.new.kind c.follow.new.report c.loop-phase.report c.judge_phase.new.report (owed_of c.args.owed.now) c.loop-phase.phase-index (calls_in c.phase-item.result) at.low at.is c.loop-phase.invariant judged

pub returns : goal.returns
returns c =
    let f = c.args.file.now in
    let d = c.args.decl.now in
    let owed = c.args.owed.now in
    let kind = c.in_ok-kind.kind in
    let mid = c.follow.new.report in
    let front = subst (FollowedBy (type_head d ++ defined_line f kind) c.args.report.now mid) c.if-not-branch.false c.in_ok-follow.ensures in
    let all = phase-end owed c.loop-phase.phase-index c.as_slice-phase-items.result.now c.as_slice-phase-items.ensures.value c.loop-phase-test.false c.loop-phase.auto.phase-index-end in
    kind-right f c.args.number d kind c.loop-phase.kind c.args.report.now mid c.loop-phase.report (owed_lines (owed_of owed)) c.in_ok-kind.ensures front c.requires.owed
    (phases-whole (kinds f) refl kind c.loop-phase.kind mid c.loop-phase.report (owed_of owed) (subst (λ n. InPhases (kinds f) kind mid c.loop-phase.kind c.loop-phase.report (owed_of owed) n) all c.loop-phase.invariant))

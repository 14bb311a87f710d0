use Rattle.case_audit.proofs.Common.{◌++◌, ◌+◌, ◌∙◌, ◌≡◌, AllRows, ap, arith, Asked, asked_in, calls_in, case-stopped, case-whole, CaseEntry, CaseModel, cases, ClosedCase, CountedCase, GrowsTo, InPhases, IsModest, IsSteady, length, List}
use Rattle.case_audit.proofs.{Common.{owed_of, phase-on, phase-stops, PhaseJudged, phases-begun, phases-whole, refl, steady-begun, StopsAt, subst, sym, uncalled}, OwedPhases.{phase-at, phase-end, row-at}}
use Rattle.case_audit.proofs.cases.judge_journal.Goals as goal

abbrev made_of : CaseModel → List CaseEntry → ClosedCase
made_of machine journal = record { machine = machine; journal = journal }

pub loop-phase-init : goal.loop-phase-init
loop-phase-init c =
    let begun : made_of c.new.result.state c.new-2.result ≡ uncalled c.args.decl.now = ap (λ (k : CountedCase). made_of k.state c.new-2.result) c.new.ensures.case ∙ ap (made_of _) c.new-2.ensures in
    record {
      judged = phases-begun (cases c.args.file.now) (made_of c.new.result.state c.new-2.result) c.args.report.now (owed_of c.args.owed.now);
      steady = subst IsSteady (sym begun) (steady-begun c.args.decl.now.id.type_no);
      few = omega (arith, ap length c.new-2.ensures, c.requires.modest.1);
    }

pub judge_phase-requires-clause-modest : goal.judge_phase-requires-clause-modest
judge_phase-requires-clause-modest c =
    let at = phase-at c.args.owed.now c.as_slice-phase-items.result.now c.loop-phase.phase-index c.phase-item.result c.as_slice-phase-items.ensures.value c.loop-phase-test.true c.phase-item.is in
    subst (λ ls. AllRows IsModest (asked_in ls)) (sym c.as_slice.ensures.value) (row-at (AllRows IsModest) (owed_of c.args.owed.now) c.loop-phase.phase-index (calls_in c.phase-item.result) c.requires.modest.0 at.low at.is)

pub judge_phase-requires-clause-few : goal.judge_phase-requires-clause-few
judge_phase-requires-clause-few c =
    let at = phase-at c.args.owed.now c.as_slice-phase-items.result.now c.loop-phase.phase-index c.phase-item.result c.as_slice-phase-items.ensures.value c.loop-phase-test.true c.phase-item.is in
    omega (arith, c.loop-phase.invariant.few, at.many, ap length c.as_slice.ensures.value)

pub returns-then-not-branch : goal.returns-then-not-branch
returns-then-not-branch c = λ phases same.
    let f = c.args.file.now in
    let at = phase-at c.args.owed.now c.as_slice-phase-items.result.now c.loop-phase.phase-index c.phase-item.result c.as_slice-phase-items.ensures.value c.loop-phase-test.true c.phase-item.is in
    let judged = subst (λ b. PhaseJudged (cases f) c.loop-phase.case c.loop-phase.report c.judge_phase.new.case c.judge_phase.new.report (calls_in c.phase-item.result) b) c.if-not-branch.true
    (subst (λ ls. PhaseJudged (cases f) c.loop-phase.case c.loop-phase.report c.judge_phase.new.case c.judge_phase.new.report (asked_in ls) c.in_ok-judge_phase.field-0) c.as_slice.ensures.value c.in_ok-judge_phase.ensures.judged) in
    let d = c.args.decl.now in
    let from = made_of c.new.result.state c.new-2.result in
    let begun : from ≡ uncalled d = ap (λ (k : CountedCase). made_of k.state c.new-2.result) c.new.ensures.case ∙ ap (made_of _) c.new-2.ensures in
    let new = c.judge_phase.new.report in
    case-stopped f phases d c.args.report.now new (owed_of c.args.owed.now) same
    (subst (λ (k : ClosedCase). StopsAt (cases f) k c.args.report.now new (λ (later : List (List Asked)). owed_of c.args.owed.now ++ later)) begun
    (phase-stops (cases f) (λ p ps. refl) from c.loop-phase.case c.judge_phase.new.case c.args.report.now c.loop-phase.report new (owed_of c.args.owed.now) c.loop-phase.phase-index (calls_in c.phase-item.result) at.low at.is c.loop-phase.invariant.judged judged))

pub loop-phase-preserved : goal.loop-phase-preserved
loop-phase-preserved c =
    let f = c.args.file.now in
    let at = phase-at c.args.owed.now c.as_slice-phase-items.result.now c.loop-phase.phase-index c.phase-item.result c.as_slice-phase-items.ensures.value c.loop-phase-test.true c.phase-item.is in
    let judged = subst (λ b. PhaseJudged (cases f) c.loop-phase.case c.loop-phase.report c.judge_phase.new.case c.judge_phase.new.report (calls_in c.phase-item.result) b) c.if-not-branch.false
    (subst (λ ls. PhaseJudged (cases f) c.loop-phase.case c.loop-phase.report c.judge_phase.new.case c.judge_phase.new.report (asked_in ls) c.in_ok-judge_phase.field-0) c.as_slice.ensures.value c.in_ok-judge_phase.ensures.judged) in
    record {
      judged = phase-on (cases f) (λ p ps. refl) (made_of c.new.result.state c.new-2.result) c.loop-phase.case c.judge_phase.new.case c.args.report.now c.loop-phase.report c.judge_phase.new.report (owed_of c.args.owed.now) c.loop-phase.phase-index (calls_in c.phase-item.result) at.low at.is c.loop-phase.invariant.judged judged;
      steady = c.in_ok-judge_phase.ensures.steady;
      few = omega (arith, c.loop-phase.invariant.few, c.in_ok-judge_phase.ensures.longer, at.many, ap length c.as_slice.ensures.value);
    }

pub returns : goal.returns
returns c = λ phases same.
    let f = c.args.file.now in
    let d = c.args.decl.now in
    let owed = c.args.owed.now in
    let from = made_of c.new.result.state c.new-2.result in
    let begun : from ≡ uncalled d = ap (λ (k : CountedCase). made_of k.state c.new-2.result) c.new.ensures.case ∙ ap (made_of _) c.new-2.ensures in
    let all = phase-end owed c.loop-phase.phase-index c.as_slice-phase-items.result.now c.as_slice-phase-items.ensures.value c.loop-phase-test.false c.loop-phase.auto.phase-index-end in
    case-whole f phases d c.loop-phase.case c.args.report.now c.loop-phase.report (owed_of owed) same
    (subst (λ (k : ClosedCase). GrowsTo (cases f) k c.args.report.now c.loop-phase.case c.loop-phase.report (λ (later : List (List Asked)). owed_of owed ++ later) (λ (later : List (List Asked)). later)) begun
    (phases-whole (cases f) refl from c.loop-phase.case c.args.report.now c.loop-phase.report (owed_of owed) (subst (λ n. InPhases (cases f) from c.args.report.now c.loop-phase.case c.loop-phase.report (owed_of owed) n) all c.loop-phase.invariant.judged)))

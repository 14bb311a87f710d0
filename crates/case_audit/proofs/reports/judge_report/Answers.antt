use Rattle.case_audit.proofs.Common.{ℕ, ◌++◌, ◌==◌, ◌∙◌, ap, asked_phases, case_totals, cases_reader, ClosedCase, ClosedKind, false, few-asked, file-modest, first_line, FollowedBy, Follows, IsModestScript, kinds_reader, length, List, migration_totals, None}
use Rattle.case_audit.proofs.{Common.{refl, script_of, Some, subst, sym, telling, true}, ReportParts.{cases-wrong, first-wrong, followed-as, kinds-wrong, totals-judged}}
use Rattle.case_audit.proofs.reports.judge_report.Goals as goal

pub returns-then-not-branch : goal.returns-then-not-branch
returns-then-not-branch g c =
    let f = c.args.file.now in
    first-wrong f _ _ (subst (FollowedBy (first_line f) c.args.report.now c.follow.new.report) c.if-not-branch.true c.in_ok-follow.ensures)

pub returns-in_default : goal.returns-in_default
returns-in_default g c =
    let f = c.args.file.now in
    kinds-wrong f _ _ _ (subst (FollowedBy (first_line f) c.args.report.now c.follow.new.report) c.if-not-branch.false c.in_ok-follow.ensures)
    (followed-as (kinds_reader f 0 f.types) c.follow.new.report c.judge_kinds.new.report _ _ _ c.in_default.is c.in_ok-kinds.ensures)

pub judge_cases-requires-clause-modest : goal.judge_cases-requires-clause-modest
judge_cases-requires-clause-modest g c κs _ =
    let f = c.args.file.now in
    let told = telling c.in-Some.kinds.items in
    let asked = ap script_of c.as_slice-2.ensures.value ∙ (c.in_ok-phases.ensures ∙ ap (λ (ks : List ClosedKind). asked_phases (telling ks) f.phases) c.as_slice.ensures.value) in
    subst IsModestScript (sym asked) (file-modest f told c.requires.file.workable c.requires.file.auditable, few-asked f told c.requires.file.workable)

pub returns-in_default-2 : goal.returns-in_default-2
returns-in_default-2 g c =
    let f = c.args.file.now in
    let asked = ap script_of c.as_slice-2.ensures.value ∙ (c.in_ok-phases.ensures ∙ ap (λ (ks : List ClosedKind). asked_phases (telling ks) f.phases) c.as_slice.ensures.value) in
    let one = c.follow.new.report in
    let two = c.judge_kinds.new.report in
    let new = c.judge_cases.new.report in
    cases-wrong f _ one two new c.in-Some.kinds.items (subst (FollowedBy (first_line f) c.args.report.now one) c.if-not-branch.false c.in_ok-follow.ensures)
    (followed-as (kinds_reader f 0 f.types) one two _ _ _ c.in-Some.is c.in_ok-kinds.ensures)
    (subst (λ script. Follows (cases_reader f script f.cases) two new None) asked (followed-as (cases_reader f (script_of c.as_slice-2.result.now) f.cases) two new _ _ _ c.in_default-2.is c.in_ok-cases.ensures))

pub returns-then-not-branch-2 : goal.returns-then-not-branch-2
returns-then-not-branch-2 g c =
    let f = c.args.file.now in
    let asked = ap script_of c.as_slice-2.ensures.value ∙ (c.in_ok-phases.ensures ∙ ap (λ (ks : List ClosedKind). asked_phases (telling ks) f.phases) c.as_slice.ensures.value) in
    let one = c.follow.new.report in
    let two = c.judge_kinds.new.report in
    let three = c.judge_cases.new.report in
    let last = subst (FollowedBy (case_totals c.as_slice-3.result.now ++ migration_totals c.as_slice-3.result.now) three c.follow-2.new.report) c.if-not-branch-2.true c.in_ok-follow-2.ensures in
    totals-judged f _ one two three _ c.in-Some.kinds.items c.in-Some-2.cases.items false _ (subst (FollowedBy (first_line f) c.args.report.now one) c.if-not-branch.false c.in_ok-follow.ensures)
    (followed-as (kinds_reader f 0 f.types) one two _ _ _ c.in-Some.is c.in_ok-kinds.ensures)
    (subst (λ script. Follows (cases_reader f script f.cases) two three (Some c.in-Some-2.cases.items)) asked (followed-as (cases_reader f (script_of c.as_slice-2.result.now) f.cases) two three _ _ _ c.in-Some-2.is c.in_ok-cases.ensures))
    (subst (λ (cs : List ClosedCase). FollowedBy (case_totals cs ++ migration_totals cs) three c.follow-2.new.report false) c.as_slice-3.ensures.value last) refl

pub returns : goal.returns
returns g c =
    let f = c.args.file.now in
    let asked = ap script_of c.as_slice-2.ensures.value ∙ (c.in_ok-phases.ensures ∙ ap (λ (ks : List ClosedKind). asked_phases (telling ks) f.phases) c.as_slice.ensures.value) in
    let one = c.follow.new.report in
    let two = c.judge_kinds.new.report in
    let three = c.judge_cases.new.report in
    let last = subst (FollowedBy (case_totals c.as_slice-3.result.now ++ migration_totals c.as_slice-3.result.now) three c.follow-2.new.report) c.if-not-branch-2.false c.in_ok-follow-2.ensures in
    totals-judged f _ one two three _ c.in-Some.kinds.items c.in-Some-2.cases.items true _ (subst (FollowedBy (first_line f) c.args.report.now one) c.if-not-branch.false c.in_ok-follow.ensures)
    (followed-as (kinds_reader f 0 f.types) one two _ _ _ c.in-Some.is c.in_ok-kinds.ensures)
    (subst (λ script. Follows (cases_reader f script f.cases) two three (Some c.in-Some-2.cases.items)) asked (followed-as (cases_reader f (script_of c.as_slice-2.result.now) f.cases) two three _ _ _ c.in-Some-2.is c.in_ok-cases.ensures))
    (subst (λ (cs : List ClosedCase). FollowedBy (case_totals cs ++ migration_totals cs) three c.follow-2.new.report true) c.as_slice-3.ensures.value last) (c.is_empty.ensures ∙ ap (λ (bs : List ℕ). length bs == 0) c.rest.ensures)

use Rattle.case_audit.proofs.{Common.{case_head, case_journal, case_reader, end_text, false, FollowedBy, Follows, subst, sym, true}, CaseParts.{end-judged, head-wrong, journal-wrong}}
use Rattle.case_audit.proofs.cases.judge_case.Goals as goal

pub returns-then-not-branch : goal.returns-then-not-branch
returns-then-not-branch c = λ phases same.
    let f = c.args.file.now in
    let d = c.args.decl.now in
    head-wrong f phases d _ _ (subst (FollowedBy (case_head f d) c.args.report.now c.follow.new.report) c.if-not-branch.true c.in_ok-follow.ensures)

pub returns-in_default : goal.returns-in_default
returns-in_default c = λ phases same.
    let f = c.args.file.now in
    let d = c.args.decl.now in
    journal-wrong f phases d _ _ _ (subst (FollowedBy (case_head f d) c.args.report.now c.follow.new.report) c.if-not-branch.false c.in_ok-follow.ensures)
    (subst (Follows (case_journal f phases d) c.follow.new.report c.judge_journal.new.report) c.in_default.is (c.in_ok-case.ensures phases same))

pub returns : goal.returns
returns c = λ phases same.
    let f = c.args.file.now in
    let d = c.args.decl.now in
    subst (Follows (case_reader f phases d) _ _) (sym c.then_some.ensures)
    (end-judged f phases d c.in-Some.case _ _ _ _ c.in_ok-stands.stands (subst (FollowedBy (case_head f d) c.args.report.now c.follow.new.report) c.if-not-branch.false c.in_ok-follow.ensures)
    (subst (Follows (case_journal f phases d) c.follow.new.report c.judge_journal.new.report) c.in-Some.is (c.in_ok-case.ensures phases same)) c.in_ok-stands.ensures)

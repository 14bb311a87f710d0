use Rattle.case_audit.proofs.{Common.{◌∙◌, ◌≡◌, ap, arith, Followed, get_or, IsCaseAt, IsModestOwed, length, subst}, CaseSections.{followed-is, judged-at, text-stays}, OwedPhases.row-at}
use Rattle.case_audit.proofs.sections.judge_section.Goals as goal

pub judge_case-requires-clause-modest : goal.judge_case-requires-clause-modest
judge_case-requires-clause-modest c = row-at IsModestOwed c.args.owed.now c.args.index c.index-owed-index.result c.requires.owed.modest (omega (arith, c.requires.within, c.requires.owed.many)) c.index-owed-index.is

pub returns-clause-start : goal.returns-clause-start
returns-clause-start c = λ within. omega (arith, within, c.min-start.ensures)

pub returns-clause-section : goal.returns-clause-section
returns-clause-section c =
    let f = c.args.file.now in
    let owed = c.args.owed.now in
    let text = c.args.text.now in
    let i = c.args.index in
    let decl = c.index-as_slice-index.result in
    let old = c.of-report.result in
    let new = c.judge_case.new.report in
    let case = c.in_ok-case.case in
    let is = subst (λ cs. decl ≡ get_or cs i decl) c.as_slice.ensures c.index-as_slice-index.is in
    let at = judged-at f owed i decl c.index-owed-index.result old new case c.requires.within is (omega (arith, c.requires.within, c.requires.owed.many)) c.index-owed-index.is c.in_ok-case.ensures in
    let same : new.text ≡ text = text-stays f owed i old new case c.requires.within c.requires.owed.script at ∙ ap (λ s. s.text) c.of-report.ensures in
    record {
      start = omega (arith, c.min-start.ensures);
      end = omega (arith, c.place.ensures.bound, ap length same);
      case =
          subst (λ (from : Followed). IsCaseAt f owed i from (record { text = text; at = c.place.result }) case) c.of-report.ensures
          (subst (λ (to : Followed). IsCaseAt f owed i old to case) (followed-is new text c.place.result same c.place.ensures.place) at);
    }

use Rattle.case_audit.proofs.Common.{[], ◌++◌, ◌+◌, ◌<◌, ◌∙◌, ◌∷◌, ◌≡◌, ap, arith, case_reader, InCases, IsCaseAt, IsSection, length, length-append, Ok, refl, row-begun, row-read, slice_get, Some, subst, suc, sym}
use Rattle.case_audit.proofs.CaseSections.{sections-on, sections-stop}
use Rattle.case_audit.proofs.sections.join_sections.Goals as goal

pub loop-section-init : goal.loop-section-init
loop-section-init c =
    let gives = c.into_iter-section-iterator.ensures.into_iter_gives in
    let f = c.args.file.now in
    let report = c.args.report.now in
    let none = c.new-cases.ensures.items in
    record {
      left = omega (arith, gives.1, ap length gives.0, c.args.sections.ok.0);
      many = omega (arith, ap length none, ap length gives.0, c.requires.sections.0);
      text = refl;
      begun = λ phases same. subst (λ cs. InCases f phases report report cs (length cs)) (sym none) (row-begun (λ n d. case_reader f phases d) f.cases report);
      sections = λ i s at.
          subst (λ n. IsSection f c.args.owed.now report.text n s) (omega (arith, ap length none)) (c.requires.sections.1 i s (subst (λ xs. slice_get xs i ≡ Some (Ok s)) gives.0 at));
    }

pub next_case-requires : goal.next_case-requires
next_case-requires c =
    let f = c.args.file.now in
    let owed = c.args.owed.now in
    let k = c.loop-section.invariant in
    let s = c.in_ok-section.field-0 in
    let there = ap (λ xs. slice_get xs 0) c.in-Some.ensures.steps.0 ∙ ap Some c.in_ok-section.was in
    record {
      owed = c.requires.owed;
      within = omega (arith, c.len.ensures, k.many, ap length c.in-Some.ensures.steps.0);
      section =
          subst (λ text. IsSection f owed text c.len.result s) (sym k.text) (subst (λ n. IsSection f owed c.args.report.now.text n s) (omega (arith, c.len.ensures)) (k.sections 0 s there));
    }

pub returns-in-None-2 : goal.returns-in-None-2
returns-in-None-2 c = λ phases same.
    let f = c.args.file.now in
    let owed = c.args.owed.now in
    let k = c.loop-section.invariant in
    let cs = c.loop-section.cases.items in
    let old = c.loop-section.report in
    let new = c.next_case.new.report in
    let low : length cs < length f.cases = omega (arith, k.many, ap length c.in-Some.ensures.steps.0) in
    let here : c.len.result ≡ length cs = omega (arith, c.len.ensures, c.loop-section.cases.ok.0) in
    let at = subst (λ o. IsCaseAt f owed (length cs) old new o) c.in-None-2.is (subst (λ n. IsCaseAt f owed n old new c.in_ok-next_case.field-0) here c.in_ok-next_case.ensures.case) in
    sections-stop f owed phases c.args.report.now old new cs same low (k.begun phases same) at

pub loop-section-preserved : goal.loop-section-preserved
loop-section-preserved c =
    let f = c.args.file.now in
    let owed = c.args.owed.now in
    let k = c.loop-section.invariant in
    let step = c.in-Some.ensures.steps in
    let cs = c.loop-section.cases.items in
    let case = c.in-Some-2.case in
    let first = c.args.report.now in
    let old = c.loop-section.report in
    let new = c.next_case.new.report in
    let low : length cs < length f.cases = omega (arith, k.many, ap length step.0) in
    let here : c.len.result ≡ length cs = omega (arith, c.len.ensures, c.loop-section.cases.ok.0) in
    let at = subst (λ o. IsCaseAt f owed (length cs) old new o) c.in-Some-2.is (subst (λ n. IsCaseAt f owed n old new c.in_ok-next_case.field-0) here c.in_ok-next_case.ensures.case) in
    let pushed : c.push.new.self.items ≡ cs ++ case ∷ [] = c.in_ok-push-in-Some-2.ensures.items in
    let longer : length c.push.new.self.items ≡ length cs + 1 = ap length pushed ∙ length-append cs (case ∷ []) in
    record {
      left = omega (arith, k.left, ap length step.0, step.1);
      many = omega (arith, longer, k.many, ap length step.0);
      text = c.in_ok-next_case.ensures.text ∙ k.text;
      begun = λ phases same.
          subst (λ xs. InCases f phases first new xs (length xs)) (sym pushed) (sections-on f owed phases first old new cs case same low (k.begun phases same) at);
      sections = λ i s there.
          subst (λ n. IsSection f owed first.text n s) (omega (arith, longer)) (k.sections (suc i) s (ap (λ xs. slice_get xs (suc i)) step.0 ∙ there));
    }

pub returns : goal.returns
returns c = λ phases same.
    let k = c.loop-section.invariant in
    let cs = c.loop-section.cases.items in
    row-read (λ n d. case_reader c.args.file.now phases d) c.args.file.now.cases c.args.report.now c.loop-section.report cs (length cs) (omega (arith, k.many, k.left, c.in-None.ensures.steps.0)) (k.begun phases same)

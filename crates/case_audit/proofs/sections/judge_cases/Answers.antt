use Rattle.case_audit.proofs.{Common.{◌∙◌, ◌≡◌, ap, AreOwed, AreSections, calls_decl, given, length, numbers, script_of, subst, sym}, OwedOf.owed-many, CaseSections.are-owed}
use Rattle.case_audit.proofs.sections.judge_cases.Goals as goal

pub judge_sections-requires-clause-owed : goal.judge_sections-requires-clause-owed
judge_sections-requires-clause-owed g c κs _ =
    subst (AreOwed c.args.file.now) (sym c.as_slice-2.ensures.value) (are-owed c.args.file.now c.in_ok-owed.owed.items (script_of c.args.phases.now) c.requires.file c.requires.modest c.in_ok-owed.ensures)

pub judge_sections-requires-clause-starts : goal.judge_sections-requires-clause-starts
judge_sections-requires-clause-starts g c κs _ =
    let many = owed-many calls_decl (script_of c.args.phases.now) c.args.file.now.cases c.in_ok-owed.owed.items c.in_ok-owed.ensures in
    ap length c.as_slice-3.ensures.value ∙ (c.in_ok-starts.ensures ∙ (ap length c.as_slice.ensures.value ∙ many))

pub join_sections-requires : goal.join_sections-requires
join_sections-requires g c =
    let f = c.args.file.now in
    let there = c.as_slice-4.ensures.value in
    record {
      owed = subst (AreOwed f) (sym there) (are-owed f c.in_ok-owed.owed.items (script_of c.args.phases.now) c.requires.file c.requires.modest c.in_ok-owed.ensures);
      sections =
          subst (λ text. AreSections f c.as_slice-4.result.now text c.in_ok-sections.sections.items) c.text-2.ensures
          (subst (λ o. AreSections f o c.text-2.result.now c.in_ok-sections.sections.items) (c.as_slice-2.ensures.value ∙ sym there) c.in_ok-sections.ensures);
    }

pub returns : goal.returns
returns g c =
    let script = script_of c.args.phases.now in
    c.join_sections.ensures script (subst (λ o. numbers o ≡ given calls_decl c.args.file.now.cases script) (sym c.as_slice-4.ensures.value) c.in_ok-owed.ensures)

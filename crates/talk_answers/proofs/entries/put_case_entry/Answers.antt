use Rattle.talk_answers.proofs.{Common.{◌-◌, ◌∙◌, ◌≡◌, ap, case_numbered, CaseEnd, gives_as, length, option_copied, refl, slice_get, Some, sym}, Last.last-there}
use Rattle.talk_answers.proofs.entries.put_case_entry.Goals as goal

pub returns-in-Some : goal.returns-in-Some
returns-in-Some g c =
    let items = c.as_slice-journal.result.now in
    let same : items ≡ c.args.case.now.journal = c.as_slice-journal.ensures ∙ ap (λ (k : CaseEnd). k.journal) c.case.view_is in
    let there : slice_get items (length items - 1) ≡ Some c.in-Some.entry.now = sym c.last.ensures.value ∙ ap option_copied c.in-Some.is in
    gives_as _ _ _ _ _ _ _ _ c.put_case_numbered.ensures
    (last-there (case_numbered c.args.file.now c.args.decl.now) c.args.case.now.journal items (length items) c.in-Some.entry.now same refl there)

use Rattle.talk_answers.proofs.{Common.{◌-◌, ◌∙◌, ◌≡◌, ap, gives_as, kind_numbered, length, option_copied, refl, slice_get, Some, sym}, Last.last-there}
use Rattle.talk_answers.proofs.entries.put_kind_entry.Goals as goal

pub returns-in-Some : goal.returns-in-Some
returns-in-Some g c =
    let items = c.as_slice-journal.result.now in
    let there : slice_get items (length items - 1) ≡ Some c.in-Some.entry.now = sym c.last.ensures.value ∙ ap option_copied c.in-Some.is in
    gives_as _ _ _ _ _ _ _ _ c.put_kind_numbered.ensures
    (last-there (kind_numbered c.args.file.now c.args.type_no) c.args.kind.now.journal items (length items) c.in-Some.entry.now c.as_slice-journal.ensures refl there)

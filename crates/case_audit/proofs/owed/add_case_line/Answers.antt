use Rattle.case_audit.proofs.{Common.{◌∙◌, ap, asked_of, case_among, changed_where, each_among, numbers, on_ok_weaker, sym, with_line}, Cells.{none-called, one-called}}
use Rattle.case_audit.proofs.owed.add_case_line.Goals as goal

pub returns-in_default-case : goal.returns-in_default-case
returns-in_default-case c =
    let called = ap case_among (sym c.cells_of-cells.ensures) ∙ (sym c.case.ensures ∙ c.in_default-case.is) in
    let moved = ap each_among (sym c.cells_of-cells.ensures) ∙ (sym c.each.ensures ∙ c.in_default.is) in
    none-called c.args.script.now.file.now.cases c.args.phase (numbers c.args.owed.now.items) (asked_of c.args.call) called moved

pub returns-in-None : goal.returns-in-None
returns-in-None c =
    let xs = numbers c.args.owed.now.items in
    let f = with_line c.args.phase (asked_of c.args.call) in
    let called = ap case_among (sym c.cells_of-cells.ensures) ∙ (sym c.case.ensures ∙ c.in-Some-case.is) in
    ap (λ o. changed_where f o xs) (sym c.in-None.is ∙ c.place_of.ensures) ∙ one-called c.args.script.now.file.now.cases c.args.phase xs (asked_of c.args.call) c.in-Some-case.id c.requires called

pub returns-in-Some-place_of : goal.returns-in-Some-place_of
returns-in-Some-place_of c =
    let xs = numbers c.args.owed.now.items in
    let f = with_line c.args.phase (asked_of c.args.call) in
    let called = ap case_among (sym c.cells_of-cells.ensures) ∙ (sym c.case.ensures ∙ c.in-Some-case.is) in
    on_ok_weaker c.add_at.result (λ is. is ∙ (ap (λ o. changed_where f o xs) (sym c.in-Some-place_of.is ∙ c.place_of.ensures) ∙ one-called c.args.script.now.file.now.cases c.args.phase xs (asked_of c.args.call) c.in-Some-case.id c.requires called)) c.add_at.ensures

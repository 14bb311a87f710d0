use Rattle.adept_server.proofs.{Common.{◌∷◌, ◌≡◌, refl, RowMet, rules, subst}, RowsMet.{none_met, rows_met}}
use Rattle.adept_server.proofs.all_rows.+meet_all.Goals as goal

pub returns-in_default : goal.returns-in_default
returns-in_default g t c =
    let m = g.M.Machine in
    none_met m.after m.reply c.args.cells.now c.args.one.now c.args.two.now c.in_default.ensures.cases c.requires.one c.requires.two

pub returns : goal.returns
returns g t c =
    let m = g.M.Machine in
    let cells : c.args.cells.now ≡ c.in-Some.row.now ∷ c.in-Some.cells_left.now = search rules in
    let firsts : c.args.one.now ≡ c.in-Some-split_first_mut.first.now ∷ c.in-Some-split_first_mut.one_left.now = search rules in
    let seconds : c.args.two.now ≡ c.in-Some-split_first_mut-2.second.now ∷ c.in-Some-split_first_mut-2.two_left.now = search rules in
    let row = subst (λ xs. RowMet m.after m.reply xs c.in-Some-split_first_mut.first.now.items c.in-Some-split_first_mut-2.second.now.items c.meet_row.new.one.items c.meet_row.new.two.items) c.deref.ensures.value c.meet_row.ensures in
    rows_met m.after m.reply c.in-Some.row.now c.in-Some.cells_left.now c.in-Some-split_first_mut.first.now c.in-Some-split_first_mut-2.second.now c.meet_row.new.one c.meet_row.new.two c.in-Some-split_first_mut.one_left.now
    c.in-Some-split_first_mut-2.two_left.now c.meet_all.new.one c.meet_all.new.two cells firsts seconds refl refl row c.meet_all.ensures

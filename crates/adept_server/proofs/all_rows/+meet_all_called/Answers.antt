use Rattle.adept_server.proofs.{Common.{◌∷◌, ◌≡◌, AreLevel, refl, RowMet, rules, subst, sym, views}, RowsMet.{legal_first, level_first, level_rest, none_met, rows_met}}
use Rattle.adept_server.proofs.all_rows.+meet_all_called.Goals as goal

pub returns-in_default : goal.returns-in_default
returns-in_default g t c =
    let m = g.M.Machine in
    none_met m.after m.reply c.args.cells.now c.args.one.now c.args.two.now c.in_default.ensures.cases c.requires.one c.requires.two

pub meet_row_called-requires-clause-level : goal.meet_row_called-requires-clause-level
meet_row_called-requires-clause-level g t c κs within =
    let flags : c.args.called.now ≡ c.in-Some-split_first.flags.now ∷ c.in-Some-split_first.called_left.now = search rules in
    let firsts : c.args.one.now ≡ c.in-Some-split_first_mut.first.now ∷ c.in-Some-split_first_mut.one_left.now = search rules in
    let seconds : c.args.two.now ≡ c.in-Some-split_first_mut-2.second.now ∷ c.in-Some-split_first_mut-2.two_left.now = search rules in
    subst (λ fs. AreLevel fs (views c.in-Some-split_first_mut.first.now.items) (views c.in-Some-split_first_mut-2.second.now.items)) (sym c.deref-2.ensures.value)
    (level_first c.in-Some-split_first.flags.now c.in-Some-split_first.called_left.now c.in-Some-split_first_mut.first.now c.in-Some-split_first_mut-2.second.now c.in-Some-split_first_mut.one_left.now c.in-Some-split_first_mut-2.two_left.now flags firsts seconds c.requires.level)

pub meet_row_called-requires-clause-legal : goal.meet_row_called-requires-clause-legal
meet_row_called-requires-clause-legal g t c κs within =
    let firsts : c.args.one.now ≡ c.in-Some-split_first_mut.first.now ∷ c.in-Some-split_first_mut.one_left.now = search rules in
    let seconds : c.args.two.now ≡ c.in-Some-split_first_mut-2.second.now ∷ c.in-Some-split_first_mut-2.two_left.now = search rules in
    let one = legal_first c.in-Some-split_first_mut.first.now c.in-Some-split_first_mut.one_left.now firsts c.requires.legal.0 in
    let two = legal_first c.in-Some-split_first_mut-2.second.now c.in-Some-split_first_mut-2.two_left.now seconds c.requires.legal.1 in
    (one.0, two.0)

pub meet_all_called-requires-clause-level : goal.meet_all_called-requires-clause-level
meet_all_called-requires-clause-level g t c κs within =
    let flags : c.args.called.now ≡ c.in-Some-split_first.flags.now ∷ c.in-Some-split_first.called_left.now = search rules in
    let firsts : c.args.one.now ≡ c.in-Some-split_first_mut.first.now ∷ c.in-Some-split_first_mut.one_left.now = search rules in
    let seconds : c.args.two.now ≡ c.in-Some-split_first_mut-2.second.now ∷ c.in-Some-split_first_mut-2.two_left.now = search rules in
    level_rest c.in-Some-split_first.flags.now c.in-Some-split_first.called_left.now c.in-Some-split_first_mut.first.now c.in-Some-split_first_mut-2.second.now c.in-Some-split_first_mut.one_left.now c.in-Some-split_first_mut-2.two_left.now flags firsts seconds c.requires.level

pub meet_all_called-requires-clause-legal : goal.meet_all_called-requires-clause-legal
meet_all_called-requires-clause-legal g t c κs within =
    let firsts : c.args.one.now ≡ c.in-Some-split_first_mut.first.now ∷ c.in-Some-split_first_mut.one_left.now = search rules in
    let seconds : c.args.two.now ≡ c.in-Some-split_first_mut-2.second.now ∷ c.in-Some-split_first_mut-2.two_left.now = search rules in
    let one = legal_first c.in-Some-split_first_mut.first.now c.in-Some-split_first_mut.one_left.now firsts c.requires.legal.0 in
    let two = legal_first c.in-Some-split_first_mut-2.second.now c.in-Some-split_first_mut-2.two_left.now seconds c.requires.legal.1 in
    (one.1, two.1)

pub returns : goal.returns
returns g t c =
    let m = g.M.Machine in
    let cells : c.args.cells.now ≡ c.in-Some.row.now ∷ c.in-Some.cells_left.now = search rules in
    let firsts : c.args.one.now ≡ c.in-Some-split_first_mut.first.now ∷ c.in-Some-split_first_mut.one_left.now = search rules in
    let seconds : c.args.two.now ≡ c.in-Some-split_first_mut-2.second.now ∷ c.in-Some-split_first_mut-2.two_left.now = search rules in
    let row = subst (λ xs. RowMet m.after m.reply xs c.in-Some-split_first_mut.first.now.items c.in-Some-split_first_mut-2.second.now.items c.meet_row_called.new.one.items c.meet_row_called.new.two.items) c.deref.ensures.value c.meet_row_called.ensures in
    rows_met m.after m.reply c.in-Some.row.now c.in-Some.cells_left.now c.in-Some-split_first_mut.first.now c.in-Some-split_first_mut-2.second.now c.meet_row_called.new.one c.meet_row_called.new.two c.in-Some-split_first_mut.one_left.now
    c.in-Some-split_first_mut-2.two_left.now c.meet_all_called.new.one c.meet_all_called.new.two cells firsts seconds refl refl row c.meet_all_called.ensures

use Rattle.adept_server.proofs.{Common.{◌∷◌, ◌≡◌, CanSplit, refl, RowSplit, rules, subst}, RowsJoined.first_row_all, RowsSplit.{none_split, rows_split}}
use Rattle.adept_server.proofs.all_rows.+split_all.Goals as goal

pub returns-in_default : goal.returns-in_default
returns-in_default g t c =
    let m = g.M.Machine in
    none_split m.after m.reply c.args.cells.now c.args.firsts.now c.args.into.now c.in_default.ensures.cases c.requires.cells c.requires.room

pub returns : goal.returns
returns g t c =
    let m = g.M.Machine in
    let cells : c.args.cells.now ≡ c.in-Some.row.now ∷ c.in-Some.cells_left.now = search rules in
    let firsts : c.args.firsts.now ≡ c.in-Some-split_first_mut.passes.now ∷ c.in-Some-split_first_mut.firsts_left.now = search rules in
    let row = subst (λ xs. RowSplit m.after m.reply xs c.in-Some-split_first_mut.passes.now.items c.split_row.new.firsts.items c.split_row.new.into.items) c.deref.ensures.value c.split_row.ensures in
    rows_split m.after m.reply c.in-Some.row.now c.in-Some.cells_left.now c.in-Some-split_first_mut.passes.now c.split_row.new.firsts c.split_row.new.into c.in-Some-split_first_mut.firsts_left.now c.split_all.new.firsts c.split_all.new.into
    cells firsts refl refl row c.split_all.ensures

pub split_row-requires-clause-can : goal.split_row-requires-clause-can
split_row-requires-clause-can g t c κs within =
    let firsts : c.args.firsts.now ≡ c.in-Some-split_first_mut.passes.now ∷ c.in-Some-split_first_mut.firsts_left.now = search rules in
    (first_row_all CanSplit c.in-Some-split_first_mut.passes.now c.in-Some-split_first_mut.firsts_left.now firsts c.requires.can).0

pub split_all-requires-clause-can : goal.split_all-requires-clause-can
split_all-requires-clause-can g t c κs within =
    let firsts : c.args.firsts.now ≡ c.in-Some-split_first_mut.passes.now ∷ c.in-Some-split_first_mut.firsts_left.now = search rules in
    (first_row_all CanSplit c.in-Some-split_first_mut.passes.now c.in-Some-split_first_mut.firsts_left.now firsts c.requires.can).1

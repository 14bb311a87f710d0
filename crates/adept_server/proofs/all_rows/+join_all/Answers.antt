use Rattle.adept_server.proofs.{Common.{◌∷◌, ◌≡◌, CanJoin, into_iter_items, refl, RowJoined, rules, subst}, RowsJoined.{first_row_all, none_joined, rows_joined}}
use Rattle.adept_server.proofs.all_rows.+join_all.Goals as goal

pub returns-in_default : goal.returns-in_default
returns-in_default g t c =
    let m = g.M.Machine in
    none_joined m.after m.reply c.args.cells.now c.args.into.now (into_iter_items c.args.done) c.in_default.ensures.cases c.requires.into c.requires.done

pub returns : goal.returns
returns g t c =
    let m = g.M.Machine in
    let cells : c.args.cells.now ≡ c.in-Some.row.now ∷ c.in-Some.cells_left.now = search rules in
    let firsts : c.args.into.now ≡ c.in-Some-split_first_mut.passes.now ∷ c.in-Some-split_first_mut.into_left.now = search rules in
    let row = subst (λ xs. RowJoined m.after m.reply xs c.in-Some-split_first_mut.passes.now.items c.in-Some-next.row_done.items c.join_row_in.new.into.items) c.deref.ensures.value c.join_row_in.ensures in
    rows_joined m.after m.reply c.in-Some.row.now c.in-Some.cells_left.now c.in-Some-split_first_mut.passes.now c.in-Some-next.row_done c.join_row_in.new.into c.in-Some-split_first_mut.into_left.now (into_iter_items c.next.new.self)
    c.join_all.new.into cells firsts c.in-Some-next.ensures.cases.0 refl row c.join_all.ensures

pub join_row_in-requires-clause-can : goal.join_row_in-requires-clause-can
join_row_in-requires-clause-can g t c κs within =
    let firsts : c.args.into.now ≡ c.in-Some-split_first_mut.passes.now ∷ c.in-Some-split_first_mut.into_left.now = search rules in
    (first_row_all CanJoin c.in-Some-split_first_mut.passes.now c.in-Some-split_first_mut.into_left.now firsts c.requires.can).0

pub join_all-requires-clause-can : goal.join_all-requires-clause-can
join_all-requires-clause-can g t c κs within =
    let firsts : c.args.into.now ≡ c.in-Some-split_first_mut.passes.now ∷ c.in-Some-split_first_mut.into_left.now = search rules in
    (first_row_all CanJoin c.in-Some-split_first_mut.passes.now c.in-Some-split_first_mut.into_left.now firsts c.requires.can).1

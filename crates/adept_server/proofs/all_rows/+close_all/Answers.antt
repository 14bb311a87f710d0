use Rattle.adept_server.proofs.{Common.{[], ◌++◌, ◌∙◌, ◌∷◌, ◌≡◌, AllZip, ap, arith, CanClose, into_iter_items, IsClosedAs, nil_from_length, refl, rules, subst, sym, views}, RowsJoined.first_row_all, RowsClosed.{none_closed, room_in_first}}
use Rattle.adept_server.proofs.RowsClosed.{rows_closed}
use Rattle.adept_server.proofs.all_rows.+close_all.Goals as goal

pub returns-in_default : goal.returns-in_default
returns-in_default g t c =
    let m = g.M.Machine in
    none_closed m.after m.reply m.state (into_iter_items c.args.cells) (into_iter_items c.args.firsts) c.args.into.now c.in_default.ensures.cases c.requires.cells c.requires.room

pub close_into-requires-clause-can : goal.close_into-requires-clause-can
close_into-requires-clause-can g t c κs within = (first_row_all CanClose c.in-Some-next-2.passes (into_iter_items c.next-2.new.self) c.in-Some-next-2.ensures.cases.0 c.requires.can).0

pub close_all-requires-clause-can : goal.close_all-requires-clause-can
close_all-requires-clause-can g t c κs within = (first_row_all CanClose c.in-Some-next-2.passes (into_iter_items c.next-2.new.self) c.in-Some-next-2.ensures.cases.0 c.requires.can).1

pub returns : goal.returns
returns g t c =
    let m = g.M.Machine in
    let closed = c.in-Some.closed.now in
    let others : c.args.into.now ≡ closed ∷ c.in-Some.into_left.now = search rules in
    let room = room_in_first c.in-Some-next.row (into_iter_items c.next.new.self) closed c.in-Some.into_left.now c.in-Some-next.ensures.cases.0 others c.requires.room in
    let empty : closed.items ≡ [] = nil_from_length closed.items (omega (arith, closed.ok.0, room.1)) in
    let row = c.close_into.ensures.closed in
    let are : c.close_into.new.into.items ≡ row.0 = row.1 ∙ ap (λ xs. xs ++ row.0) empty in
    rows_closed m.after m.reply m.state c.in-Some-next-2.passes c.close_into.new.into (into_iter_items c.next-2.new.self) c.close_all.new.into c.in-Some-next-2.ensures.cases.0 refl
    (subst (AllZip (IsClosedAs m.after m.reply m.state) (views c.in-Some-next-2.passes.items)) (sym are) row.2) c.close_all.ensures

use Rattle.adept_server.proofs.Common.{◌++◌, ◌∙◌, ◌≡◌, AreOf, EachLooked, map, OnOk, row_offers, subst, sym, view_of, with_items_is}
use Rattle.adept_server.proofs.offering.look_type.Goals as goal

pub returns-clause-cells : goal.returns-clause-cells
returns-clause-cells g c =
    let whole = with_items_is c.args.passes.now c.look_row.new.passes (c.look_row.auto.passes ∙ c.deref_mut.ensures.len) in
    subst (λ xs. AreOf c.args.cells.now.items xs) (sym whole) (subst (λ cs. AreOf cs c.look_row.new.passes) c.deref.ensures.value c.look_row.ensures.cells)

pub returns-clause-looked : goal.returns-clause-looked
returns-clause-looked g c =
    let whole = with_items_is c.args.passes.now c.look_row.new.passes (c.look_row.auto.passes ∙ c.deref_mut.ensures.len) in
    subst (λ xs. EachLooked (map view_of c.args.passes.now.items) (map view_of xs)) (sym whole) (subst (λ xs. EachLooked (map view_of xs) (map view_of c.look_row.new.passes)) c.deref_mut.ensures.value c.look_row.ensures.looked)

pub returns-clause-ok : goal.returns-clause-ok
returns-clause-ok g c =
    let whole = with_items_is c.args.passes.now c.look_row.new.passes (c.look_row.auto.passes ∙ c.deref_mut.ensures.len) in
    subst (λ xs. OnOk c.look_row.result (c.look_row.new.offers ≡ c.args.offers.now ++ row_offers c.args.role c.args.type_no 0 (map view_of xs))) (sym whole) c.look_row.ensures.ok

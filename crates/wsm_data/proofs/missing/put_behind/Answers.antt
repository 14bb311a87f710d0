use Rattle.wsm_data.proofs.{Common.{◌||◌, ◌∙◌, ap, Behind, eqb, Holds, is_one_of, list_any, on_ok_weaker, SchemaModel, writes_of}, Pass.{put-is, written-is}}
use Rattle.wsm_data.proofs.missing.put_behind.Goals as goal

pub returns : goal.returns
returns c =
    let s = c.args.schema.now in
    let node = c.args.node in
    let row : Behind = record { node = node; elements = c.in_ok-elements.elements } in
    let holds : Holds row.elements.value (λ d. is_one_of d c.args.sure.value || writes_of s node d) =
    λ d.
    c.in_ok-elements.ensures d
    ∙ ap (λ b. is_one_of d c.args.sure.value || b) (ap (list_any (λ w. eqb w.1 d)) c.rows_of.ensures ∙ written-is node d c.schema.inside.writes ∙ ap (λ (m : SchemaModel). writes_of m node d) c.schema.view_is)
    in
    on_ok_weaker c.set.result (put-is (λ d. is_one_of d c.args.sure.value || writes_of s node d) row c.args.table.now c.set.new.self holds) c.set.ensures.ok

use Rattle.wsm_lists.proofs.{Common.{◌∙◌, ap, Ascends, nil_from_length, put_over, refl, rows_of, subst, sym}, PutOver.over-none}
use Rattle.wsm_lists.proofs.growing.GrowingTable.into_table.Goals as goal

pub returns-then-is_empty : goal.returns-then-is_empty
returns-then-is_empty g c =
    let key = g.K.Keys.key_of in
    let few = subst (Ascends key) c.as_slice.ensures.rows c.as_slice.ensures.ascends in
    sym (over-none key c.self.inside.few few) ∙ ap (λ es. put_over key c.self.inside.few (rows_of es)) (sym (nil_from_length c.self.inside.more.entries (c.if-is_empty.ensures.0 refl))) ∙ c.self.view_is

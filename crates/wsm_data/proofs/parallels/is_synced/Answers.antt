use Rattle.wsm_data.proofs.{Common.{◌||◌, ◌∙◌, ap, both, is_some, or_left, row_at, SchemaModel, sym, synced}, Syncs.synced-is}
use Rattle.wsm_data.proofs.parallels.is_synced.Goals as goal

pub returns-then-has : goal.returns-then-has
returns-then-has c =
    let syncs = c.schema.inside.syncs in
    let a = c.args.a in
    let b = c.args.b in
    c.if-has.true
    ∙ sym (or_left (is_some (row_at both (a, b) syncs)) (is_some (row_at both (b, a) syncs)) (sym c.has.ensures ∙ c.if-has.true))
    ∙ synced-is a b syncs ∙ ap (λ (m : SchemaModel). synced m a b) c.schema.view_is

pub returns-else-has : goal.returns-else-has
returns-else-has c =
    let syncs = c.schema.inside.syncs in
    let a = c.args.a in
    let b = c.args.b in
    c.has-else-has.ensures
    ∙ ap (λ x. x || is_some (row_at both (b, a) syncs)) (sym c.if-has.false ∙ c.has.ensures)
    ∙ synced-is a b syncs ∙ ap (λ (m : SchemaModel). synced m a b) c.schema.view_is

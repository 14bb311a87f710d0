use Rattle.wsm_block.proofs.{Common.{◌∙◌, ap, is_none, parts_of, parts_size, room_behind}, TreeSizes.{none-tested, too-many}}
use Rattle.wsm_block.proofs.limits.has_many_nodes.Goals as goal

pub returns : goal.returns
returns c =
    none-tested c.room_behind.result c.is_none.result c.is_none.ensures
    ∙ ap is_none (c.room_behind.ensures ∙ ap (λ ps. room_behind (parts_size ps) 1022) (ap parts_of c.deref.ensures.value ∙ ap (λ v. v.body) c.schema.view_is))
    ∙ too-many c.args.schema.now

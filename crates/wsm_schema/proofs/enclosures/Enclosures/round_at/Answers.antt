use Rattle.wsm_schema.proofs.{Common.{◌<◌, ◌∙◌, ap, cards_of, get_or, length, nodes_of, parts_round, SchemaModel, subst, sym}, EnclosureWalk.blocks-placed}
use Rattle.wsm_schema.proofs.enclosures.Enclosures.round_at.Goals as goal

pub returns-clause-blocks : goal.returns-clause-blocks
returns-clause-blocks c =
    let s : SchemaModel = c.self.inside.schema.now in
    let within : c.args.place < length (cards_of s) = subst (λ (v : SchemaModel). c.args.place < length (cards_of v)) (sym c.self.view_is) c.requires in
    c.as_slice.ensures ∙ c.index.ensures ∙ ap (λ blocks. get_or blocks c.args.place c.index.result.now) c.self.invariant.each
    ∙ blocks-placed s c.args.place c.index.result.now within
    ∙ ap (λ (v : SchemaModel). parts_round v.body (get_or (nodes_of (cards_of v)) c.args.place 0)) c.self.view_is

use Rattle.wsm_schema.proofs.{Common.{◌∙◌, ap, are_bound, parts_round}, EnclosureWalk.bound-by_blocks}
use Rattle.wsm_schema.proofs.enclosures.Enclosures.is_bound.Goals as goal

pub returns : goal.returns
returns c =
    c.are_bound.ensures ∙ ap (λ xs. are_bound xs c.round-2.result.now) c.round.ensures.blocks ∙ ap (are_bound (parts_round c.args.self.now.body c.args.a)) c.round-2.ensures.blocks
    ∙ bound-by_blocks c.args.self.now c.round.ensures.distinct c.args.a c.args.b

use Rattle.wsm_schema.proofs.{Common.{◌∙◌, ap, part_ways, parts_round}, EnclosureWalk.apart-by_blocks}
use Rattle.wsm_schema.proofs.enclosures.Enclosures.are_apart.Goals as goal

pub returns : goal.returns
returns c =
    c.part_ways.ensures ∙ ap (λ xs. part_ways xs c.round-2.result.now) c.round.ensures.blocks ∙ ap (part_ways (parts_round c.args.self.now.body c.args.a)) c.round-2.ensures.blocks
    ∙ apart-by_blocks c.args.self.now c.round.ensures.distinct c.args.a c.args.b

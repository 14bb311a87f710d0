use Rattle.wsm_schema.proofs.{Common.{ℕ, ◌∙◌, ap, cards_of, get_or, List, nodes_of, part_ways, parts_round}, EnclosureWalk.apart-by_blocks}
use Rattle.wsm_schema.proofs.enclosures.Enclosures.are_apart_at.Goals as goal

pub returns : goal.returns
returns c =
    let nodes : List ℕ = nodes_of (cards_of c.args.self.now) in
    c.part_ways.ensures ∙ ap (λ xs. part_ways xs c.round_at-2.result.now) c.round_at.ensures.blocks ∙ ap (part_ways (parts_round c.args.self.now.body (get_or nodes c.args.a 0))) c.round_at-2.ensures.blocks
    ∙ apart-by_blocks c.args.self.now c.round_at.ensures.distinct (get_or nodes c.args.a 0) (get_or nodes c.args.b 0)

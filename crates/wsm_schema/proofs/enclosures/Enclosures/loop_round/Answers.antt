use Rattle.wsm_schema.proofs.{Common.{◌∙◌, ap, innermost_loop, None, sym}, EnclosedNodes.parts-loop}
use Rattle.wsm_schema.proofs.enclosures.Enclosures.loop_round.Goals as goal

pub returns : goal.returns
returns c = c.innermost_loop.ensures ∙ ap (λ blocks. innermost_loop blocks None) c.round.ensures.blocks ∙ sym (parts-loop c.args.self.now.body c.args.node None)

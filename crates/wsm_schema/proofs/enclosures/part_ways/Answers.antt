use Rattle.wsm_schema.proofs.{Common.{◌∙◌, arith, sym}, EnclosedNodes.past-end}
use Rattle.wsm_schema.proofs.enclosures.part_ways.Goals as goal

pub returns : goal.returns
returns c = sym (past-end c.loop-i.i c.args.a.now c.args.b.now (omega (arith, c.min-i-end.ensures, c.loop-i-test.false))) ∙ c.loop-i.invariant

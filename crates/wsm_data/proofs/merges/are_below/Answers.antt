use Rattle.wsm_data.proofs.{Common.ltb-true, Merging.below-all}
use Rattle.wsm_data.proofs.merges.are_below.Goals as goal

pub returns : goal.returns
returns c = λ less. below-all c.args.lower.now c.args.upper.now c.requires.first c.requires.second (ltb-true _ _ less)

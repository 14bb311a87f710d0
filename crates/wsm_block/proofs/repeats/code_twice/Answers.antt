use Rattle.wsm_block.proofs.{Common.{◌∙◌, map, sym}, Ascents.ascending-once}
use Rattle.wsm_block.proofs.repeats.code_twice.Goals as goal

pub returns-then-are_ascending : goal.returns-then-are_ascending
returns-then-are_ascending c = sym (ascending-once (map (λ b. b.code) c.args.branches.now) (sym c.are_ascending.ensures ∙ c.if-are_ascending.true))

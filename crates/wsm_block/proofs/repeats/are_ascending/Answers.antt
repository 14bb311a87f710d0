use Rattle.wsm_block.proofs.{Common.{◌∙◌, sym}, Ascents.{ascends-next, ascends-stops, ascends-end}}
use Rattle.wsm_block.proofs.repeats.are_ascending.Goals as goal

pub loop-i-preserved : goal.loop-i-preserved
loop-i-preserved c =
    ascends-next (λ b. b.code) c.args.branches.now c.loop-i.i c.loop-i.last c.index-branches-i.result c.loop-i-test.true (sym c.is_above.ensures ∙ c.if-not-is_above.false)
    ∙ c.loop-i.invariant

pub returns-then-not-is_above : goal.returns-then-not-is_above
returns-then-not-is_above c =
    ascends-stops (λ b. b.code) c.args.branches.now c.loop-i.i c.loop-i.last c.index-branches-i.result c.loop-i-test.true (sym c.is_above.ensures ∙ c.if-not-is_above.true)
    ∙ c.loop-i.invariant

pub returns : goal.returns
returns c = ascends-end (λ b. b.code) c.args.branches.now c.loop-i.i c.loop-i.last c.loop-i-test.false ∙ c.loop-i.invariant

use Rattle.wsm_data.proofs.{Common.{◌∙◌, le-ltb}, Elements.{stands-at, stands-nowhere}}
use Rattle.wsm_data.proofs.sets.stands_at.Goals as goal

pub returns-then-at-numbers : goal.returns-then-at-numbers
returns-then-at-numbers c = stands-at c.args.element c.args.at c.args.numbers.now c.requires.order c.requires.place c.if-at-numbers.true

pub returns-else-at-numbers : goal.returns-else-at-numbers
returns-else-at-numbers c = le-ltb _ _ c.if-at-numbers.false ∙ stands-nowhere c.args.element c.args.at c.args.numbers.now c.requires.order c.requires.place c.if-at-numbers.false

use Rattle.store_form.proofs.Common.{◌≡◌, drop, rises_from}
use Rattle.store_form.proofs.schemas.rise_from.Given as goal

abbrev pub invariant-loop-row : goal.invariant-loop-row
invariant-loop-row g l = rises_from g.K.Keys.key_of l.below (drop l.row-index l.rows) ≡ rises_from g.K.Keys.key_of l.fn.start l.rows

use Rattle.wsm_schema.proofs.Common.{◌≡◌, are_free, drop}
use Rattle.wsm_schema.proofs.enclosures.are_free.Given as goal

abbrev pub invariant-loop-block : goal.invariant-loop-block
invariant-loop-block l = are_free (drop l.block-index l.blocks) ≡ are_free l.blocks

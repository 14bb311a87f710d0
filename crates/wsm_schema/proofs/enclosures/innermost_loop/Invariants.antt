use Rattle.wsm_schema.proofs.Common.{◌≡◌, drop, innermost_loop, None}
use Rattle.wsm_schema.proofs.enclosures.innermost_loop.Given as goal

abbrev pub invariant-loop-block : goal.invariant-loop-block
invariant-loop-block l = innermost_loop (drop l.block-index l.blocks) l.around ≡ innermost_loop l.blocks None

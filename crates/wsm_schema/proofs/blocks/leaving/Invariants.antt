use Rattle.wsm_schema.proofs.Common.{◌≡◌, drop, leaving, parts_of}
use Rattle.wsm_schema.proofs.blocks.leaving.Given as goal

abbrev pub invariant-loop-block : goal.invariant-loop-block
invariant-loop-block l = leaving (parts_of (drop l.block-index l.items)) l.last ≡ leaving (parts_of l.items) l.fn.from

use Rattle.wsm_schema.proofs.Common.{◌++◌, ◌≡◌, drop, placed}
use Rattle.wsm_schema.proofs.ranks.placed.Given as goal

abbrev pub invariant-loop-place : goal.invariant-loop-place
invariant-loop-place l = l.all.items ++ placed l.place (drop l.place l.nodes) ≡ placed 0 l.nodes

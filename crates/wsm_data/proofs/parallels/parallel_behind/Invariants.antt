use Rattle.wsm_data.proofs.Common.{◌≡◌, drop, first_some, parallel_write, WritesInOrder}
use Rattle.wsm_data.proofs.parallels.parallel_behind.Given as goal

abbrev pub invariant-loop-i : goal.invariant-loop-i
invariant-loop-i l = record {
  rest : first_some (parallel_write l.schema l.card) (drop l.i l.others) ≡ first_some (parallel_write l.schema l.card) l.others;
  order : WritesInOrder (drop l.i l.others);
}

use Rattle.wsm_data.proofs.Common.{◌≡◌, drop, parallel_writes, WritesInOrder}
use Rattle.wsm_data.proofs.parallels.first_parallel.Given as goal

abbrev pub invariant-loop-place : goal.invariant-loop-place
invariant-loop-place l = record {
  rest : parallel_writes l.schema (drop l.place l.cards) ≡ parallel_writes l.schema l.cards;
  order : WritesInOrder (drop l.place l.cards);
}

use Rattle.wsm_commute.proofs.Common.{[], ◌≡◌, cards_of, drop, in_order, nodes_of, None, twice}
use Rattle.wsm_commute.proofs.many.all_in_order.Given as goal

abbrev pub invariant-loop-ops : goal.invariant-loop-ops
invariant-loop-ops l = record {
  distinct : twice [] (nodes_of (cards_of l.new)) ≡ None;
  so_far : in_order l.new (drop l.ops-index l.lists) ≡ in_order l.base l.lists;
}

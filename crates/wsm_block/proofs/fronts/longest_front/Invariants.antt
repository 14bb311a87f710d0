use Rattle.wsm_block.proofs.Common.{◌+◌, ◌-◌, ◌<◌, ◌≤◌, IsOrder, length, nodes_of, onto_seen, SameNodes, take}
use Rattle.wsm_block.proofs.fronts.longest_front.Given as goal

abbrev pub invariant-halves : goal.invariant-halves
invariant-halves l = record {
  below : l.front.count ≤ l.next;
  above : l.next < l.cyclic;
  bound : l.cyclic ≤ length l.syncs + 1;
  order : IsOrder (onto_seen (take l.front.count l.syncs) l.control) l.front.nodes.items;
  same : SameNodes l.front.nodes.items (nodes_of l.flat.cards);
}

abbrev pub decreases-halves : goal.decreases-halves
decreases-halves l = l.cyclic - l.front.count

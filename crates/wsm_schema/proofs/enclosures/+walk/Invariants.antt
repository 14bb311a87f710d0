use Rattle.wsm_schema.proofs.Common.{◌++◌, ◌≡◌, drop, lanes, lanes_of, lanes_walk, parts_of, parts_walk}
use Rattle.wsm_schema.proofs.enclosures.+walk.Given as goal

abbrev pub invariant-put_items-loop-i : goal.invariant-put_items-loop-i
invariant-put_items-loop-i l =
    l.all.items ++ parts_walk l.outer (parts_of (drop l.i l.items)) ≡ l.initial.all.items ++ parts_walk l.outer (parts_of l.items)

abbrev pub invariant-put_gate-loop-i : goal.invariant-put_gate-loop-i
invariant-put_gate-loop-i l =
    l.all.items ++ lanes_walk l.outer l.split l.kind l.i (lanes (lanes_of (drop l.i l.branches)))
    ≡ l.initial.all.items ++ lanes_walk l.outer l.split l.kind 0 (lanes (lanes_of l.branches))

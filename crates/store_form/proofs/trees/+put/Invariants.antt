use Rattle.store_form.proofs.Common.{◌++◌, ◌≡◌, drop, FitsLanes, FitsParts, lanes, lanes_bytes, lanes_of, parts_bytes, parts_of}
use Rattle.store_form.proofs.trees.+put.Given as goal

abbrev pub invariant-put_each_item-loop-i : goal.invariant-put_each_item-loop-i
invariant-put_each_item-loop-i l =
    (l.out.items ++ parts_bytes (parts_of (drop l.i l.items)) ≡ l.fn.out.items ++ parts_bytes (parts_of l.items))
    × (FitsParts (parts_of (drop l.i l.items)) → FitsParts (parts_of l.items))

abbrev pub invariant-put_each_branch-loop-i : goal.invariant-put_each_branch-loop-i
invariant-put_each_branch-loop-i l =
    (l.out.items ++ lanes_bytes (lanes (lanes_of (drop l.i l.branches))) ≡ l.fn.out.items ++ lanes_bytes (lanes (lanes_of l.branches)))
    × (FitsLanes (lanes (lanes_of (drop l.i l.branches))) → FitsLanes (lanes (lanes_of l.branches)))

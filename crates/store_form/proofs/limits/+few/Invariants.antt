use Rattle.store_form.proofs.Common.{◌≡◌, drop, few_in_lanes, few_in_parts, lanes, lanes_of, parts_of}
use Rattle.store_form.proofs.limits.+few.Given as goal

abbrev pub invariant-are_few-loop-i : goal.invariant-are_few-loop-i
invariant-are_few-loop-i l = few_in_parts (parts_of (drop l.i l.items)) ≡ few_in_parts (parts_of l.items)

abbrev pub invariant-have_few-loop-i : goal.invariant-have_few-loop-i
invariant-have_few-loop-i l = few_in_lanes (lanes (lanes_of (drop l.i l.branches))) ≡ few_in_lanes (lanes (lanes_of l.branches))

use Rattle.store_form.proofs.Common.{◌≡◌, drop, lanes, lanes_depth, lanes_of, parts_depth, parts_of}
use Rattle.std.proofs.Common.{nat_lt}
use Rattle.store_form.proofs.limits.+depth.Given as goal

abbrev pub invariant-are_deeper-loop-i : goal.invariant-are_deeper-loop-i
invariant-are_deeper-loop-i l = nat_lt l.depth (parts_depth (parts_of (drop l.i l.items))) ≡ nat_lt l.depth (parts_depth (parts_of l.items))

abbrev pub invariant-have_deeper-loop-i : goal.invariant-have_deeper-loop-i
invariant-have_deeper-loop-i l = nat_lt l.depth (lanes_depth (lanes (lanes_of (drop l.i l.branches)))) ≡ nat_lt l.depth (lanes_depth (lanes (lanes_of l.branches)))

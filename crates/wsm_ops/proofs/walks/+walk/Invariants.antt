use Rattle.wsm_ops.proofs.Common.{[], ℕ, ◌++◌, ◌≡◌, contains, drop, is_one_of, lanes, lanes_of, lanes_pieces, List, nat_cmp, parts_of, parts_pieces}
use Rattle.wsm_ops.proofs.walks.+walk.Given as goal

-- some codes are those so far, and the rest is still to come
abbrev pub invariant-put_branches-loop-i : goal.invariant-put_branches-loop-i
invariant-put_branches-loop-i l =
    (codes : List ℕ)
    × ((c : ℕ) → contains nat_cmp l.seen c ≡ is_one_of c codes)
    × (l.all.items ++ lanes_pieces l.split codes (lanes (lanes_of (drop l.i l.branches))) ≡ l.initial.all.items ++ lanes_pieces l.split [] (lanes (lanes_of l.branches)))

abbrev pub invariant-put_items-loop-i : goal.invariant-put_items-loop-i
invariant-put_items-loop-i l =
    l.all.items ++ parts_pieces (parts_of (drop l.i l.items)) ≡ l.initial.all.items ++ parts_pieces (parts_of l.items)

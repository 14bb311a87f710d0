use Rattle.wsm_lists.proofs.Common.{◌+◌, ◌≡◌, ◌≤◌, Ascends, drop, first, put_all, puts_of, vec_capacity, vec_len}
use Rattle.wsm_lists.proofs.taking.set_each.Given as goal

abbrev pub invariant-loop-change : goal.invariant-loop-change
invariant-loop-change g l =
    Ascends first l.rows.items
    × (put_all (puts_of (drop l.change-index l.changes)) l.rows.items ≡ put_all (puts_of l.changes) l.fn.rows.items)
    × (vec_len l.rows ≤ vec_len l.fn.rows + l.change-index)
    × (vec_capacity l.fn.rows ≤ vec_capacity l.rows)

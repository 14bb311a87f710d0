use Rattle.wsm_lists.proofs.Common.{◌++◌, ◌+◌, ◌≡◌, ◌≤◌, absent_of, drop, puts_of, take, vec_capacity, vec_len}
use Rattle.wsm_lists.proofs.taking.push_absent.Given as goal

abbrev pub invariant-loop-change : goal.invariant-loop-change
invariant-loop-change g l =
    (l.count ≤ vec_len l.rows)
    × (take l.count l.rows.items ≡ l.fn.rows.items)
    × (l.rows.items ++ absent_of (puts_of (drop l.change-index l.changes)) l.fn.rows.items ≡ l.fn.rows.items ++ absent_of (puts_of l.changes) l.fn.rows.items)
    × (vec_len l.rows ≤ vec_len l.fn.rows + l.change-index)
    × (vec_capacity l.fn.rows ≤ vec_capacity l.rows)

use Rattle.wsm_lists.proofs.{Common.{first, IsPartitionPoint-from_clause, key_lt, of_calls, rules}, Rows.{ascends-partitioned, rows_below-point}, ByNumber.lt_number}
use Rattle.wsm_lists.proofs.reserved.searched_place.Goals as goal

pub returns : goal.returns
returns g c =
    let point = IsPartitionPoint-from_clause (λ x. key_lt (first x) (c.args.number, 0)) _ _ c.partition_point.ensures.partitioned
    (ascends-partitioned first (c.args.number, 0) c.args.rows.now c.requires)
    (λ a r f h. let less = lt_number a.0.now.0 c.args.number in search (rules, of_calls)) in
    rows_below-point first (c.args.number, 0) c.args.rows.now _ c.partition_point.ensures.bound point

use Rattle.wsm_lists.proofs.{Common.{◌+◌, IsPartitionPoint-from_clause, key_lt, of_calls, rules}, Rows.{ascends-partitioned, rows_below-point, lt_next}}
use Rattle.wsm_lists.proofs.tables.end_of.Goals as goal

pub returns : goal.returns
returns g c =
    let point = IsPartitionPoint-from_clause (λ x. key_lt (g.K.Keys.key_of x) (c.args.number + 1, 0)) _ _ c.partition_point.ensures.partitioned
    (ascends-partitioned g.K.Keys.key_of (c.args.number + 1, 0) c.args.rows.now c.requires)
    (λ a r f h. let next = lt_next g.K.Keys.key_of (g.K.Keys.key_of a.0.now) c.args.number in search (rules, of_calls)) in
    rows_below-point g.K.Keys.key_of (c.args.number + 1, 0) c.args.rows.now _ c.partition_point.ensures.bound point

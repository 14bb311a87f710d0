use Rattle.wsm_lists.proofs.{Common.{IsPartitionPoint-from_clause, key_lt, of_calls, rules}, Rows.{ascends-partitioned, rows_below-point}}
use Rattle.wsm_lists.proofs.tables.searched_place.Goals as goal

pub returns : goal.returns
returns g c =
    let point = IsPartitionPoint-from_clause (λ x. key_lt (g.K.Keys.key_of x) c.args.key) _ _ c.partition_point.ensures.partitioned
    (ascends-partitioned g.K.Keys.key_of c.args.key c.args.rows.now c.requires) (λ a r f h. search (rules, of_calls)) in
    rows_below-point g.K.Keys.key_of c.args.key c.args.rows.now _ c.partition_point.ensures.bound point

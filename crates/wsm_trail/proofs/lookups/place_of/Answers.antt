use Rattle.wsm_trail.proofs.Common.{ascends-partitioned, first, key_lt, lt_number, of_calls, rows_below-point, rules}
use Rattle.std.proofs.lemmas.List.Sorted.{IsPartitionPoint-from_clause}
use Rattle.wsm_trail.proofs.lookups.place_of.Goals as goal

pub returns : goal.returns
returns g c =
    let point = IsPartitionPoint-from_clause (λ x. key_lt (first x) (c.args.number, 0)) _ _ c.partition_point.ensures.partitioned
    (ascends-partitioned first (c.args.number, 0) c.args.rows.now c.requires)
    (λ a r f h. let less = lt_number a.0.now.0 c.args.number in search (rules, of_calls)) in
    rows_below-point first (c.args.number, 0) c.args.rows.now _ c.partition_point.ensures.bound point

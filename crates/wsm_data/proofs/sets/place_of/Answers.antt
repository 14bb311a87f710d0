use Rattle.wsm_data.proofs.Common.{ℕ, ascends-partitioned, key_lt, number, of_calls, rows_below-point, rules}
use Rattle.std.proofs.lemmas.List.Sorted.{IsPartitionPoint-from_clause}
use Rattle.wsm_data.proofs.sets.place_of.Goals as goal

pub returns-clause-place : goal.returns-clause-place
returns-clause-place c =
    let key : ℕ × ℕ = (c.args.element, 0) in
    let point = IsPartitionPoint-from_clause (λ x. key_lt (number x) key) _ _ c.partition_point.ensures.partitioned
    (ascends-partitioned number key c.args.numbers.now c.requires) (λ a r f h. search (rules, of_calls)) in
    rows_below-point number key c.args.numbers.now _ c.partition_point.ensures.bound point

use Rattle.wsm_schema.proofs.{Common.{IsPartitionedBy-ltb, IsPartitionPoint-from_clause, ltb, of_calls, rules}, Runs.start-from_tests}
use Rattle.wsm_schema.proofs.groups.searched_start.Goals as goal

pub returns-clause-place : goal.returns-clause-place
returns-clause-place g c =
    start-from_tests c.args.number c.args.rows.now _
    (IsPartitionPoint-from_clause (λ r. ltb r.0 c.args.number) _ _ c.partition_point.ensures.partitioned
    (IsPartitionedBy-ltb (λ r. r.0) c.args.rows.now c.args.number c.requires) (λ a r f h. search (rules, of_calls)))

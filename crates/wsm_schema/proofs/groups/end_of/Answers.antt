use Rattle.wsm_schema.proofs.{Common.{IsPartitionedBy-leb, IsPartitionPoint-from_clause, leb, of_calls, rules}, Runs.end-from_tests}
use Rattle.wsm_schema.proofs.groups.end_of.Goals as goal

pub returns-clause-place : goal.returns-clause-place
returns-clause-place g c =
    end-from_tests c.args.number c.args.rows.now _
    (IsPartitionPoint-from_clause (λ r. leb r.0 c.args.number) _ _ c.partition_point.ensures.partitioned
    (IsPartitionedBy-leb (λ r. r.0) c.args.rows.now c.args.number c.requires) (λ a r f h. search (rules, of_calls)))

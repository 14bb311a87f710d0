use Rattle.wsm_schema.proofs.{Common.{answers_always, IsNonDecreasingBy-from_sort_by_key, rules}, Runs.sorted-groups}
use Rattle.wsm_schema.proofs.groups.Groups.of.Goals as goal

pub invariant_of-result : goal.invariant_of-result
invariant_of-result g c = IsNonDecreasingBy-from_sort_by_key (λ r. r.0) _ c.in_ok-sort_by_key.ensures.sorted (λ a r q k. search rules)

pub returns : goal.returns
returns g c = sorted-groups _ _ (c.in_ok-sort_by_key.ensures.stable (λ r. r.0) (answers_always _ _ _ (λ f a r q k. search rules)))

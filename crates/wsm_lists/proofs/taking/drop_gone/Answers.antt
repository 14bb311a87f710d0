use Rattle.wsm_lists.proofs.Common.{is_gone, item_at, not, of_calls, rules}
use Rattle.std.proofs.lemmas.Fn.{filter_same}
use Rattle.wsm_lists.proofs.taking.drop_gone.Goals as goal

pub returns-clause-rows : goal.returns-clause-rows
returns-clause-rows g c = filter_same _ (λ r. not (is_gone (item_at r.0 c.args.changes.now))) _ (λ x b q h. search (rules, of_calls)) _ _ c.retain.ensures.filtered

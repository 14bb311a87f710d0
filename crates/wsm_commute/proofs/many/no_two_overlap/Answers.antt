use Rattle.wsm_commute.proofs.{Common.{◌∙◌, sym}, FirstPairs.none-found}
use Rattle.wsm_commute.proofs.many.no_two_overlap.Goals as goal

pub returns-in-None-clause-ok : goal.returns-in-None-clause-ok
returns-in-None-clause-ok c = none-found 0 1 c.args.lists.now (sym c.in_ok-first_pair.ensures ∙ c.in-None.is)

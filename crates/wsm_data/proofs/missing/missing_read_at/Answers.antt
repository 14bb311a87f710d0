use Rattle.wsm_data.proofs.{Common.{◌∙◌, ap, is_one_of, missing_at}, Pass.missing-there}
use Rattle.wsm_data.proofs.missing.missing_read_at.Goals as goal

pub returns : goal.returns
returns c =
    c.missing_at.ensures ∙ ap (λ set. missing_at (λ n d. is_one_of d set) c.args.card.now) c.deref.ensures
    ∙ missing-there c.args.enclosures.now c.args.card.now c.in_ok-sure.sure.value (λ d. c.in_ok-sure.ensures d ∙ c.requires.told d)

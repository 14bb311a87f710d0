use Rattle.wsm_schema.proofs.{Common.{◌∙◌, ap, FlatModel, slice_get, sym}, Runs.{no_card-placed, card-placed}}
use Rattle.wsm_schema.proofs.flats.Flat.card.Goals as goal

pub returns-in-None : goal.returns-in-None
returns-in-None c = sym (no_card-placed c.args.node c.args.self.now.cards (sym c.place.ensures ∙ c.in-None.is))

pub returns-in-Some : goal.returns-in-Some
returns-in-Some c =
    c.card_in.ensures ∙ ap (λ cards. slice_get cards c.in-Some.place) (c.deref.ensures.value ∙ ap (λ (f : FlatModel). f.cards) c.self.view_is)
    ∙ card-placed c.args.node c.args.self.now.cards c.in-Some.place (sym c.place.ensures ∙ c.in-Some.is)

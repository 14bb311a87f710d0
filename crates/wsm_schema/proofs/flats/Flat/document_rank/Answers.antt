use Rattle.wsm_schema.proofs.{Common.{◌∙◌, ◌≡◌, ap, map, numbered, placed, SameGroups, subst, sym}, PlacedCards.placed-cards}
use Rattle.wsm_schema.proofs.flats.Flat.document_rank.Goals as goal

pub with_places-requires : goal.with_places-requires
with_places-requires c =
    let cards = c.self.inside.cards.items in
    let nodes = c.in_ok-nodes.nodes.items in
    let listed : nodes ≡ map (λ k. k.node) cards = c.in_ok-nodes.ensures ∙ ap (map (λ k. k.node)) c.deref.ensures.value in
    let rows : placed 0 nodes ≡ numbered 0 cards = ap (placed 0) listed ∙ placed-cards 0 cards in
    subst (SameGroups (placed 0 nodes)) (sym c.in_ok-index.ensures) (subst (λ rs. SameGroups rs c.self.inside.index.value) (sym rows) c.self.invariant.placed)

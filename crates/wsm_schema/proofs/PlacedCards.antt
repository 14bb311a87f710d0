-- The places of cards are those of their nodes.
use Rattle.wsm_schema.proofs.Common.{[], ℕ, ◌+◌, ◌∷◌, ◌≡◌, ap, Card, List, map, numbered, placed, refl}

pub placed-cards : (place : ℕ) (cs : List Card) → placed place (map (λ c. c.node) cs) ≡ numbered place cs
placed-cards place [] = refl
placed-cards place (c ∷ cs) = ap (λ rows. (c.node, place) ∷ rows) (placed-cards (place + 1) cs)

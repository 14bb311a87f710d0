-- One pass over a net in the order of a rank.
use Rattle.std.specs.Prelude.{ℕ, List, [], ◌∷◌, ◌++◌, Option, Some, None, if◌then◌else◌}
use Rattle.wsm_schema.specs.{Flat.card_at, Rules.{Spots, spot, spot_in, is_begun, state_by, verdict_at}, declared.cards.Card.Card, declared.states.Spot.Spot}

-- the node rule, where `old` says which nodes were begun, and `done` what the earlier nodes are
abbrev pub ruled_from : List Card → Spots → Spots → Card → Spot
ruled_from cards old done c =
    if is_begun c.kind (spot_in c.node old).state then spot_in c.node old
    else spot c.node (state_by c.kind (verdict_at cards done c)) None

-- one more spot, where the node has a card
abbrev pub ruled_if : List Card → Spots → Spots → Option Card → Spots
ruled_if cards old done None = done
ruled_if cards old done (Some c) = done ++ ruled_from cards old done c ∷ []

-- the nodes of a rank one after another
abbrev pub pass : List Card → Spots → List ℕ → Spots → Spots
pass cards old [] done = done
pass cards old (n ∷ ns) done = pass cards old ns (ruled_if cards old done (card_at n cards))

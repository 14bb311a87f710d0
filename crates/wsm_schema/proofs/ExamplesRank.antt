-- Document order as a rank.
use Rattle.wsm_schema.proofs.{Common.{[], ◌∷◌, cards_of, IsRank, places, refl}, DocumentOrder.{places-after, cards-behind, document-order}, ExampleSchemas.skip}

-- the nodes of a choice, from the start to the finish
pub a_rank : IsRank (cards_of skip) (0 ∷ 2 ∷ 4 ∷ 3 ∷ 5 ∷ 1 ∷ [])
a_rank =
    document-order (cards_of skip) refl
    (cards-behind skip [] (places skip.start skip.body skip.finish) (places-after skip.start skip.body skip.finish) (tt, (tt, (tt, (tt, (tt, (tt, tt)))))))

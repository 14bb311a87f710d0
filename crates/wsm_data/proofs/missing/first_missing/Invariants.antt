use Rattle.wsm_data.proofs.Common.{◌≡◌, AllRows, drop, first_some, HasEdge, missing_at, sure_of, TellsAt}
use Rattle.wsm_data.proofs.missing.first_missing.Given as goal

abbrev pub invariant-loop-card : goal.invariant-loop-card
invariant-loop-card l = record {
  rest : first_some (missing_at (sure_of l.enclosures)) (drop l.card-index l.cards) ≡ first_some (missing_at (sure_of l.enclosures)) l.cards;
  left : AllRows (λ c. HasEdge c.kind c.ins × TellsAt l.enclosures l.table c) (drop l.card-index l.cards);
}

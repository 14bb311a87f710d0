use Rattle.wsm_schema.proofs.Common.{ℕ, ◌<◌, ◌≡◌, Card, card_at, slice_get, Some}
use Rattle.wsm_schema.proofs.flats.are_apart.Given as goal

abbrev pub invariant-loop-place : goal.invariant-loop-place
invariant-loop-place l = (p : ℕ) (c : Card) → p < l.place → slice_get l.cards p ≡ Some c → card_at c.node l.cards ≡ Some c

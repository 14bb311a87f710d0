-- Tests of a node's card, by what its seat says.
use Rattle.wsm_ops.proofs.Common.{ℕ, ◌∙◌, ◌≡◌, ap, begins_item, Bool, by_card, Card, card_at, ends_with, List, NodeKind, None, not, Option, option_map, option_or, refl, Seat, seat_of, Some, when, wrong_item, wrong_unless}
use Rattle.wsm_ops.specs.declared.faults.OpWhy.TheVariants.{WrongKind}
use Rattle.wsm_ops.proofs.PieceEffects.{card_at-node}

pub by_seat : (test : NodeKind → Bool) (n : ℕ) (found : Option Card) (seat : Seat) → option_map seat_of found ≡ Some seat → by_card (λ c. test c.kind) n found ≡ when (not (test seat.kind)) (WrongKind n)
by_seat test n None seat h = absurd (cc)
by_seat test n (Some c) seat h = let is : seat_of c ≡ seat = cc in ap (λ (s : Seat). when (not (test s.kind)) (WrongKind n)) is

pub item_by_seat : (cards : List Card) (first last : ℕ) (seat : Seat) → option_map seat_of (card_at first cards) ≡ Some seat →
    wrong_item cards first last (card_at first cards)
    ≡ option_or (when (not (begins_item seat.kind)) (WrongKind first)) (wrong_unless (λ _. ends_with seat.kind first seat.partner last) cards last)
item_by_seat cards first last seat h = go (card_at first cards) refl h
  where
    go : (found : Option Card) → card_at first cards ≡ found → option_map seat_of found ≡ Some seat →
        wrong_item cards first last found ≡ option_or (when (not (begins_item seat.kind)) (WrongKind first)) (wrong_unless (λ _. ends_with seat.kind first seat.partner last) cards last)
    go None there k = absurd (cc)
    go (Some c) there k =
        let is : seat_of c ≡ seat = cc in
        ap (λ n. option_or (when (not (begins_item c.kind)) (WrongKind first)) (wrong_unless (λ _. ends_with c.kind n c.partner last) cards last)) (card_at-node first cards c there)
        ∙ ap (λ (s : Seat). option_or (when (not (begins_item s.kind)) (WrongKind first)) (wrong_unless (λ _. ends_with s.kind first s.partner last) cards last)) is

use Rattle.wsm_ops.proofs.{Common.{◌∙◌, cards_of, sym}, SeatCards.item_by_seat}
use Rattle.wsm_ops.proofs.refusals.item_refusal.Goals as goal

pub returns-in-Some : goal.returns-in-Some
returns-in-Some c =
    rw (c.or.ensures, c.when-wrong.ensures, c.begins_item.ensures, c.last_refusal.ensures, c.ends_with.ensures)
    (sym (item_by_seat (cards_of c.args.draft.now) c.args.first c.args.last c.in-Some.seat (sym c.seat.ensures ∙ c.in-Some.is)))

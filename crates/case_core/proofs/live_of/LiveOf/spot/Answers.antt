use Rattle.case_core.proofs.{Common.{◌∙◌, ◌≡◌, ap, card_at, cards_of, item_at, LiveModel, mark_or, mark_spot, marks_in, None, option_copied, refl, Some, sym}, Marked.{spot-marked, spot-none}}
use Rattle.case_core.proofs.live_of.LiveOf.spot.Goals as goal

pub returns-in-None : goal.returns-in-None
returns-in-None g c =
    let l : LiveModel = c.args.self.now in
    let none : card_at c.args.node (cards_of l.schema) ≡ None = sym c.card.ensures.card ∙ ap option_copied c.in-None.is in
    c.unmarked.ensures ∙ spot-none l c.card.ensures.kept c.args.node none

pub returns-in-Some : goal.returns-in-Some
returns-in-Some g c =
    let l : LiveModel = c.args.self.now in
    let at : card_at c.args.node (cards_of l.schema) ≡ Some c.in-Some.card.now = sym c.card.ensures.card ∙ ap option_copied c.in-Some.is in
    c.spot_by.ensures
    ∙ ap (λ o. mark_spot c.in-Some.card.now.kind c.args.node (mark_or o)) (c.get.ensures ∙ ap (item_at c.args.node) c.marks.ensures.rows)
    ∙ spot-marked l c.card.ensures.kept (marks_in l) refl c.args.node c.in-Some.card.now at

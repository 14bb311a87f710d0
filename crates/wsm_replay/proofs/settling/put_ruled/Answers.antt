use Rattle.wsm_replay.proofs.{Common.{[], ◌++◌, ◌∙◌, ◌∷◌, ◌≡◌, ap, by_node, card_at, cond, is_some, not, option_copied, put_row, row_at, ruled_if, Some, sym}, Agreement.put-rows}
use Rattle.wsm_replay.proofs.settling.put_ruled.Goals as goal

pub returns-in_ok-put-in-Some : goal.returns-in_ok-put-in-Some
returns-in_ok-put-in-Some c =
    let cards = c.args.flat.now.cards in
    let done = c.args.done.now in
    let spot = c.in_ok-spot-in-Some.spot in
    let card : card_at c.args.node cards ≡ Some c.in-Some.card.now = sym c.card.ensures ∙ ap option_copied c.in-Some.is in
    let new : c.put.new.self ≡ cond (not (is_some (row_at by_node (by_node spot) done))) (put_row by_node spot done) done =
    c.in_ok-put-in-Some.ensures.rows ∙ ap (λ b. cond b (put_row by_node spot done) done) c.in_ok-put-in-Some.ensures.added in
    λ n.
    ap (row_at by_node (n, 0)) new
    ∙ put-rows done spot n
    ∙ ap (λ s. row_at by_node (n, 0) (done ++ s ∷ [])) c.in_ok-spot-in-Some.ensures
    ∙ ap (λ o. row_at by_node (n, 0) (ruled_if cards c.args.old.now done o)) (sym card)

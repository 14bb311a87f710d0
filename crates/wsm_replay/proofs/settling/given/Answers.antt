use Rattle.wsm_replay.proofs.{Common.{◌∙◌, ◌∷◌, ◌≡◌, ap, by_node, IfOk-weaker, marking_of, put_row, settle}, Agreement.settle-put, Replays.marking_of-same}
use Rattle.wsm_replay.proofs.settling.given.Goals as goal

pub returns : goal.returns
returns c =
    let cards = c.args.flat.now.cards in
    let table = c.args.table.now in
    let spot = c.args.spot in
    let put : c.set.new.self ≡ put_row by_node spot table = c.in_ok-set.ensures.ok ∙ ap (put_row by_node spot) c.in_ok-old.ensures in
    IfOk-weaker c.settled.result (λ new. new ≡ marking_of cards (settle cards c.set.new.self)) (λ new. new ≡ marking_of cards (settle cards (spot ∷ table)))
    (λ new is.
    is
    ∙ ap (λ t. marking_of cards (settle cards t)) put
    ∙ marking_of-same cards (settle cards (put_row by_node spot table)) (settle cards (spot ∷ table)) (settle-put cards c.args.rank.now c.requires spot table))
    c.settled.ensures

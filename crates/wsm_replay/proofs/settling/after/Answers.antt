use Rattle.wsm_replay.proofs.{Common.{◌∙◌, ◌∷◌, ◌≡◌, after, ap, IfOk-weaker, marking_of, settle, sym}, Agreement.{after_spot, after-spot}}
use Rattle.wsm_replay.proofs.settling.after.Goals as goal

pub returns-in-None : goal.returns-in-None
returns-in-None c =
    let cards = c.args.flat.now.cards in
    let table = c.args.table.now in
    let net : after cards c.args.entry.now table ≡ table = after-spot cards c.args.entry.now table ∙ ap (λ o. after_spot cards o table) (sym c.spot_of.ensures ∙ c.in-None.is) in
    IfOk-weaker c.copy.result (λ new. new ≡ table) (λ new. new ≡ marking_of cards (after cards c.args.entry.now table))
    (λ new is. is ∙ sym c.requires.marking ∙ ap (marking_of cards) (sym net))
    c.copy.ensures

pub returns-in-Some : goal.returns-in-Some
returns-in-Some c =
    let cards = c.args.flat.now.cards in
    let table = c.args.table.now in
    let spot = c.in-Some.spot in
    let net : after cards c.args.entry.now table ≡ settle cards (spot ∷ table) =
    after-spot cards c.args.entry.now table ∙ ap (λ o. after_spot cards o table) (sym c.spot_of.ensures ∙ c.in-Some.is) in
    IfOk-weaker c.given.result (λ new. new ≡ marking_of cards (settle cards (spot ∷ table))) (λ new. new ≡ marking_of cards (after cards c.args.entry.now table))
    (λ new is. is ∙ ap (marking_of cards) (sym net))
    c.given.ensures

use Rattle.wsm_data.proofs.{Common.{◌∙◌, ap, arith, HasEdge, missing_at, sure_of, sym, TellsAt}, Pass.{first-found, first-left, rows-step}}
use Rattle.wsm_data.proofs.missing.first_missing.Goals as goal

pub missing_read_at-requires-clause-edged : goal.missing_read_at-requires-clause-edged
missing_read_at-requires-clause-edged c =
    (rows-step (λ k. HasEdge k.kind k.ins × TellsAt c.args.enclosures.now c.args.table.now k) c.args.cards.now c.loop-card.card-index c.card-item.result (omega arith) c.card-item.is c.loop-card.invariant.left).0.0

pub missing_read_at-requires-clause-told : goal.missing_read_at-requires-clause-told
missing_read_at-requires-clause-told c =
    (rows-step (λ k. HasEdge k.kind k.ins × TellsAt c.args.enclosures.now c.args.table.now k) c.args.cards.now c.loop-card.card-index c.card-item.result (omega arith) c.card-item.is c.loop-card.invariant.left).0.1

pub returns-then-is_some : goal.returns-then-is_some
returns-then-is_some c =
    first-found (missing_at (sure_of c.args.enclosures.now)) c.args.cards.now c.loop-card.card-index c.card-item.result c.in_ok-found.found _ (omega arith) c.card-item.is
    c.in_ok-found.ensures (sym c.is_some.ensures ∙ c.if-is_some.true) c.loop-card.invariant.rest

pub loop-card-preserved : goal.loop-card-preserved
loop-card-preserved c =
    let cards = c.args.cards.now in
    let i = c.loop-card.card-index in
    let card = c.card-item.result in
    record {
      rest =
          first-left (missing_at (sure_of c.args.enclosures.now)) cards i card c.in_ok-found.found _ (omega arith) c.card-item.is
          c.in_ok-found.ensures (sym c.is_some.ensures ∙ c.if-is_some.false) c.loop-card.invariant.rest;
      left = (rows-step (λ k. HasEdge k.kind k.ins × TellsAt c.args.enclosures.now c.args.table.now k) cards i card (omega arith) c.card-item.is c.loop-card.invariant.left).1;
    }

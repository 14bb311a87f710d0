use Rattle.wsm_adapt.proofs.Common.{◌∙◌, ap, first, item_at, put_row}
use Rattle.std.proofs.lemmas.Result.{on_ok_weaker}
use Rattle.wsm_adapt.proofs.walks.note.Goals as goal

pub returns-clause-known : goal.returns-clause-known
returns-clause-known c =
    on_ok_weaker c.set-2.result (λ put n. c.in_ok-set.ensures n ∙ ap (λ o. item_at n (put_row first (c.args.node, o) c.args.found.now.known)) c.said-said.ensures) c.set-2.ensures.ok

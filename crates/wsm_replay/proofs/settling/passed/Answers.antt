use Rattle.wsm_replay.proofs.{Common.{◌+◌, ◌∙◌, ◌∷◌, ◌≡◌, add-one, ap, arith, by_node, card_at, drop, drop-cons, pass, row_at, ruled_if, slice_index, sym}, Agreement.pass-rows}
use Rattle.wsm_replay.proofs.settling.passed.Goals as goal

pub loop-node-preserved : goal.loop-node-preserved
loop-node-preserved c =
    let cards = c.args.flat.now.cards in
    let old = c.args.old.now in
    let nodes = c.args.nodes.now in
    let i = c.loop-node.node-index in
    let done = c.loop-node.done in
    let split : drop i nodes ≡ slice_index nodes i ∷ drop (i + 1) nodes = rw add-one (drop-cons nodes i 0 (omega arith)) in
    λ n.
    pass-rows cards old c.put_ruled.new.done (ruled_if cards old done (card_at (slice_index nodes i) cards)) c.in_ok-put_ruled.ensures (drop (i + 1) nodes) n
    ∙ ap (λ ns. row_at by_node (n, 0) (pass cards old ns done)) (sym split)
    ∙ c.loop-node.invariant n

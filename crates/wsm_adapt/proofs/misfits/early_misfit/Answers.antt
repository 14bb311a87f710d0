use Rattle.wsm_adapt.proofs.{Common.{◌+◌, ◌∙◌, ap, drop, early_in, least, lesser, map}, LeastFirst.least-next}
use Rattle.wsm_adapt.proofs.misfits.early_misfit.Goals as goal

pub loop-node-preserved : goal.loop-node-preserved
loop-node-preserved c =
    let early = early_in c.args.new.now c.args.known.now in
    ap (λ o. lesser o (least (map early (drop (c.loop-node.node-index + 1) c.args.nodes.now)))) (c.lesser-first.ensures ∙ ap (lesser c.loop-node.first) c.node_early.ensures)
    ∙ least-next early c.args.nodes.now c.loop-node.node-index 0 c.loop-node-test.true c.loop-node.first _ c.loop-node.invariant

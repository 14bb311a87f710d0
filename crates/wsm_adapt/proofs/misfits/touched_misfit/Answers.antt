use Rattle.wsm_adapt.proofs.{Common.{◌+◌, ◌∙◌, ap, arith, drop, get_or, least, lesser, map, misfit_in}, LeastFirst.least-next}
use Rattle.wsm_adapt.proofs.misfits.touched_misfit.Goals as goal

pub loop-node-preserved : goal.loop-node-preserved
loop-node-preserved g c =
    let i = c.loop-node.invariant in
    let misfit = misfit_in c.args.old.now c.args.new.now c.args.known.now (g.T.TrailReads.kept c.args.trail.now).entries in
    record {
      least =
          ap (λ o. lesser o (least (map misfit (drop (c.loop-node.node-index + 1) c.args.nodes.now)))) (c.lesser-first.ensures ∙ ap (lesser c.loop-node.first) (c.node_misfit-misfit.ensures.misfit ∙ ap (λ t. misfit_in c.args.old.now c.args.new.now c.args.known.now t.entries (get_or c.args.nodes.now c.loop-node.node-index 0)) i.same))
          ∙ least-next misfit c.args.nodes.now c.loop-node.node-index 0 c.loop-node-test.true c.loop-node.first _ i.least;
      same = c.node_misfit-misfit.ensures.same ∙ i.same;
      rises = (let a = i.rises in let b = c.node_misfit-misfit.ensures.rises in omega (arith, a, b));
      count = (let a = i.count in let b = c.node_misfit-misfit.ensures.count in omega (arith, a, b));
    }

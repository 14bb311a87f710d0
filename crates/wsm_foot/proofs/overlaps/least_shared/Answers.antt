use Rattle.std.proofs.Common.{ap, ◌∙◌, arith, filter}
use Rattle.std.specs.BTreeSet.{contains}
use Rattle.wsm_foot.specs.{Order.name_cmp, Foot.{lesser, least}}
use Rattle.wsm_foot.proofs.Least.{least-goes_on}
use Rattle.wsm_foot.proofs.overlaps.least_shared.Goals as goal

pub loop-name-preserved : goal.loop-name-preserved
loop-name-preserved c =
    least-goes_on (contains name_cmp c.args.set.now) c.args.names.now c.loop-name.name-index _ c.loop-name.least c.lesser-least.result
    (least (filter (contains name_cmp c.args.set.now) c.args.names.now)) (omega arith)
    (c.lesser-least.ensures ∙ ap (lesser c.loop-name.least) c.if_shared.ensures) c.loop-name.invariant

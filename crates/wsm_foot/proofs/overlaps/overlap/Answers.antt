use Rattle.std.proofs.Common.{filter, sym}
use Rattle.wsm_foot.specs.Foot.{is_among, footprint, all_changes}
use Rattle.wsm_foot.proofs.Least.{least-append}
use Rattle.wsm_foot.proofs.overlaps.overlap.Goals as goal

pub returns : goal.returns
returns c =
    let left = c.args.left.now in
    let right = c.args.right.now in
    rw (c.lesser.ensures, c.in_ok-on_left.ensures, c.in_ok-on_right.ensures)
    (sym (least-append (filter (is_among (footprint right)) (all_changes left)) (filter (is_among (footprint left)) (all_changes right))))

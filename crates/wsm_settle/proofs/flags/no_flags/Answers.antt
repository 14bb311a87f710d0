use Rattle.wsm_settle.proofs.{Common.{◌∙◌, ◌≡◌, ap, arith, flagged, length}, Flagged.grown}
use Rattle.wsm_settle.proofs.flags.no_flags.Goals as goal

pub returns : goal.returns
returns c =
    let none : length c.new-flags.result.items ≡ 0 = ap length c.new-flags.ensures.items in
    ap (flagged 0) c.in_ok-resize.ensures.items ∙ grown c.new-flags.result.items c.args.places _ (omega (arith, none)) ∙ ap (flagged 0) c.new-flags.ensures.items

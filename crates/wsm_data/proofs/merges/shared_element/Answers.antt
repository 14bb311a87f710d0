use Rattle.wsm_data.proofs.{Common.{refl, sym}, Merging.{none-below, none-above}, merges.shared_element.Goals.{then-are_below-via-then-are_below, then-are_below-via-else-are_below+then-are_below-2}}
use Rattle.wsm_data.proofs.merges.shared_element.Goals as goal

pub returns-then-are_below : goal.returns-then-are_below
returns-then-are_below c =
    elim c.then-are_below.branch [
      | then-are_below-via-then-are_below w ↦ sym (none-below c.args.elements.now c.args.others.now (w.if-are_below.ensures refl))
      | then-are_below-via-else-are_below+then-are_below-2 w ↦ sym (none-above c.args.elements.now c.args.others.now (w.if-are_below-2.ensures refl))
    ]

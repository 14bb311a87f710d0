use Rattle.std.proofs.Common.{◌≡◌, ◌++◌, drop}
use Rattle.wsm_items.specs.WorkItems.{items_in}
use Rattle.wsm_items.proofs.kept_items.Items.list.Given as goal

abbrev pub invariant-loop-item : goal.invariant-loop-item
invariant-loop-item l = l.list.items ++ items_in (drop l.item-index l.item-items) ≡ items_in l.item-items

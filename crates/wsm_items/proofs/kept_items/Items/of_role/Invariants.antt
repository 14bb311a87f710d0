use Rattle.std.proofs.Common.{◌≡◌, ◌++◌, drop, filter}
use Rattle.wsm_items.specs.WorkItems.{is_offered_to, items_in}
use Rattle.wsm_items.proofs.kept_items.Items.of_role.Given as goal

abbrev pub invariant-loop-item : goal.invariant-loop-item
invariant-loop-item l = l.list.items ++ filter (is_offered_to l.role) (items_in (drop l.item-index l.item-items)) ≡ filter (is_offered_to l.role) (items_in l.item-items)

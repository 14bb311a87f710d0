use Rattle.std.proofs.Common.{◌≡◌, ◌++◌, drop, filter}
use Rattle.wsm_items.specs.WorkItems.{is_held_by, items_in}
use Rattle.wsm_items.proofs.kept_items.Items.of_user.Given as goal

abbrev pub invariant-loop-item : goal.invariant-loop-item
invariant-loop-item l = l.list.items ++ filter (is_held_by l.user) (items_in (drop l.item-index l.item-items)) ≡ filter (is_held_by l.user) (items_in l.item-items)

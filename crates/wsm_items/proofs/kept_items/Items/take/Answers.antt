use Rattle.std.proofs.Common.{◌≡◌, ℕ, sym, subst}
use Rattle.wsm_items.specs.{WorkItems.{ByNode, item_node}, declared.work_items.Item.Item}
use Rattle.wsm_lists.specs.Keys.{first}
use Rattle.wsm_lists.proofs.Rows.{all_drop}
use Rattle.wsm_items.proofs.kept_items.Items.take.Goals as goal

pub invariant_of-self : goal.invariant_of-self
invariant_of-self c = subst ByNode (sym c.remove.ensures.rows) (all_drop first (λ (r : ℕ × Item). r.0 ≡ item_node r.1) (c.args.node, 0) c.self.inside.rows.rows c.self.invariant)

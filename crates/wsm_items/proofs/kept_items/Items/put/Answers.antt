use Rattle.std.proofs.Common.{◌≡◌, ℕ, sym, subst}
use Rattle.wsm_items.specs.{WorkItems.{ByNode, item_node}, declared.work_items.Item.Item}
use Rattle.wsm_lists.specs.Keys.{first}
use Rattle.wsm_lists.proofs.Rows.{all_put}
use Rattle.wsm_items.proofs.kept_items.Items.put.Goals as goal

pub invariant_of-self : goal.invariant_of-self
invariant_of-self c = subst ByNode (sym c.set.ensures.rows) (all_put first (λ (r : ℕ × Item). r.0 ≡ item_node r.1) (c.node.result, c.args.item) c.self.inside.rows.rows c.node.ensures c.self.invariant)

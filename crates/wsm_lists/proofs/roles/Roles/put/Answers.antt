use Rattle.wsm_lists.proofs.{Common.{ℕ, ◌<◌, first, rules}, Rows.{all_drop, all_set}}
use Rattle.wsm_lists.proofs.roles.Roles.put.Goals as goal

pub invariant_of-self : goal.invariant_of-self
invariant_of-self c =
    rw c.remove.ensures (all_drop first (λ (r : ℕ × ℕ). 0 < r.1) (c.args.node, 0) c.self.inside.rows c.self.invariant)

pub invariant_of-self-2 : goal.invariant_of-self-2
invariant_of-self-2 c =
    all_set first (λ (r : ℕ × ℕ). 0 < r.1) (c.args.node, c.args.role) c.self.inside.rows c.set.new.self c.set.result (search rules) c.self.invariant c.set.ensures.ok c.set.ensures.err

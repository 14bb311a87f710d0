use Rattle.wsm_data.proofs.Common.{ℕ, ◌&&◌, ◌≡◌, drop, is_one_of, list_all, map, set_behind}
use Rattle.wsm_data.proofs.tables.behind_all.Given as goal

abbrev pub invariant-loop-i : goal.invariant-loop-i
invariant-loop-i l = (d : ℕ) →
    (is_one_of d l.set.value && list_all (λ b. b) (map (λ e. is_one_of d (set_behind l.table e.node)) (drop l.i l.ends)))
    ≡ list_all (λ b. b) (map (λ e. is_one_of d (set_behind l.table e.node)) l.ends)

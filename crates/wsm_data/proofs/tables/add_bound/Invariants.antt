use Rattle.wsm_data.proofs.Common.{ℕ, ◌&&◌, ◌||◌, ◌≡◌, drop, is_one_of, list_any, parts_bound, set_behind, told_by_syncs}
use Rattle.wsm_data.proofs.tables.add_bound.Given as goal

abbrev pub invariant-loop-source : goal.invariant-loop-source
invariant-loop-source l = (d : ℕ) →
    (is_one_of d l.set || list_any (λ m. parts_bound l.enclosures.body m l.card.node && is_one_of d (set_behind l.table m)) (drop l.source-index l.source-items))
    ≡ (is_one_of d l.initial.set || told_by_syncs l.enclosures l.table l.card d)

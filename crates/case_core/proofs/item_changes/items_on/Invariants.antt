use Rattle.case_core.proofs.{Common.{[], ℕ, cards_of, drop, item_at, item_for, None}, ItemLoops.Held}
use Rattle.case_core.proofs.item_changes.items_on.Given as goal

abbrev pub invariant-loop-row : goal.invariant-loop-row
invariant-loop-row l =
    (n : ℕ) → Held None (item_for (cards_of l.checked) [] n) (item_at n (drop l.row-index l.row-items)) (item_at n l.items.rows) (item_at n l.row-items)

use Rattle.case_core.proofs.{Common.{ℕ, ◌≤◌, Ascends, cards_of, drop, first, item_at, length, option_copied}, ItemLoops.{Held, renewed}}
use Rattle.case_core.proofs.item_changes.renew_items.Given as goal

abbrev pub invariant-loop-change : goal.invariant-loop-change
invariant-loop-change l = record {
  items : (n : ℕ) → Held (item_at n l.initial.items.rows) (renewed (cards_of l.checked) l.next (option_copied l.entry) l.initial.items.rows n) (item_at n (drop l.change-index l.change-items)) (item_at n l.items.rows) (item_at n l.change-items);
  ascends : Ascends first l.items.rows;
  room : length (drop l.change-index l.change-items) ≤ l.items.spare;
}

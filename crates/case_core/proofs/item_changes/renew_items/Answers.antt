use Rattle.case_core.proofs.Common.{ℕ, ◌+◌, ◌∷◌, ◌≡◌, ap, arith, Ascends, ascends-change, cards_of, drop, drop_more, first, get_or, IsOfNode, item_at, length, List, Mark, None, Option, option_copied, subst, sym}
use Rattle.case_core.proofs.ItemLoops.{of-held, renew-next}
use Rattle.case_core.proofs.item_changes.renew_items.Goals as goal

pub renew_item-requires-clause-node : goal.renew_item-requires-clause-node
renew_item-requires-clause-node c =
    let x : ℕ × Option Mark = get_or c.as_slice-change-items.result.now c.loop-change.change-index (0, None) in
    subst (IsOfNode x.0) (sym c.changed_item-item.ensures)
    (of-held (cards_of c.args.checked.now) c.args.next (option_copied c.args.entry) (item_at x.0 c.loop-change.items.rows) x.0 x.1)

pub loop-change-preserved : goal.loop-change-preserved
loop-change-preserved c =
    let rows : List (ℕ × Option Mark) = c.as_slice-change-items.result.now in
    let i : ℕ = c.loop-change.change-index in
    let x : ℕ × Option Mark = get_or rows i (0, None) in
    let split : drop i rows ≡ x ∷ drop (i + 1) rows = drop_more rows i (0, None) c.loop-change-test.true in
    let one_less : length (drop i rows) ≡ length (x ∷ drop (i + 1) rows) = ap length split in
    record {
      items = λ n. renew-next (cards_of c.args.checked.now) c.args.next (option_copied c.args.entry) c.args.items.now.rows rows c.as_slice-change-items.ensures.ascends i _ c.loop-change-test.true
          c.loop-change.items.rows c.renew_item.new.items.rows c.loop-change.invariant.ascends c.changed_item-item.result c.changed_item-item.ensures c.renew_item.ensures.rows n (c.loop-change.invariant.items n);
      ascends = subst (Ascends first) (sym c.renew_item.ensures.rows) (ascends-change x.0 c.changed_item-item.result c.loop-change.items.rows c.loop-change.invariant.ascends);
      room = omega (arith, one_less, c.loop-change.invariant.room, c.renew_item.ensures.spare);
    }

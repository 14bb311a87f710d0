use Rattle.case_core.proofs.{Common.{[], ℕ, ◌∙◌, ◌≡◌, ap, arith, cards_of, drop, drop_of_length-le, Entry, Item, item_at, item_for, List, Mark, None, subst, sym, with_item}, ItemLoops.{Held, held-first, item-next, unmarked-none}}
use Rattle.case_core.proofs.item_changes.items_on.Goals as goal

pub loop-row-init : goal.loop-row-init
loop-row-init c n =
    let cards = cards_of c.args.checked.now in
    let es : List (ℕ × Entry) = [] in
    let rows : List (ℕ × Mark) = c.as_slice-row-items.result.now in
    subst (λ (is : List (ℕ × Item)). Held None (item_for cards es n) (item_at n rows) (item_at n is) (item_at n rows)) (sym c.new-items.ensures) (held-first None (item_for cards es n) (unmarked-none cards es n) (item_at n rows))

pub loop-row-preserved : goal.loop-row-preserved
loop-row-preserved c n =
    let cards = cards_of c.args.checked.now in
    let es : List (ℕ × Entry) = [] in
    let rows : List (ℕ × Mark) = c.as_slice-row-items.result.now in
    item-next cards es rows c.as_slice-row-items.ensures.ascends c.loop-row.row-index _ (omega arith) c.loop-row.items.rows c.put_item.new.items.rows
    (c.in_ok-put_item.ensures ∙ ap (λ o. with_item o c.loop-row.items.rows) c.first_item-item.ensures) n (c.loop-row.invariant n)

pub returns : goal.returns
returns c n =
    let cards = cards_of c.args.checked.now in
    let es : List (ℕ × Entry) = [] in
    let rows : List (ℕ × Mark) = c.as_slice-row-items.result.now in
    let end : drop c.loop-row.row-index rows ≡ [] = drop_of_length-le rows c.loop-row-test.false in
    subst (λ (rs : List (ℕ × Mark)). Held None (item_for cards es n) (item_at n rs) (item_at n c.loop-row.items.rows) (item_at n rows)) end (c.loop-row.invariant n)
    ∙ ap (λ (rs : List (ℕ × Mark)). item_for cards es n (item_at n rs)) c.as_slice-row-items.ensures.rows

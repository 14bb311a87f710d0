use Rattle.talk_answers.proofs.Common.{[], ℕ, ◌++◌, ◌∙◌, ◌∷◌, ◌≡◌, ap, Bytes, flat_map, gives_as, Item, item_lines, items_in, line_if_concerned, List, refl, sym}
use Rattle.talk_answers.proofs.items.put_items_of.Goals as goal

-- what a function writes of rows is what it writes of their items
of-rows : (f : Item → Bytes) (rows : List (ℕ × Item)) → flat_map (λ (r : ℕ × Item). f r.1) rows ≡ flat_map f (items_in rows)
of-rows f [] = refl
of-rows f (r ∷ rs) = ap (λ bytes. f r.1 ++ bytes) (of-rows f rs)

pub returns-in-Some : goal.returns-in-Some
returns-in-Some g c =
    let line = line_if_concerned c.args.file.now c.args.actor c.args.decl.now in
    gives_as _ _ _ _ _ _ _ _ c.put_item_lines.ensures
    (of-rows line c.as_slice.result.now
    ∙ (ap (λ (rows : List (ℕ × Item)). flat_map line (items_in rows)) c.as_slice.ensures.rows
    ∙ (ap (flat_map line) c.items.ensures.items ∙ sym (ap (item_lines c.args.file.now c.args.actor c.args.decl.now) c.in-Some.is))))

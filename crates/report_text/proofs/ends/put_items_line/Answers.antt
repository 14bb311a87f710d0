use Rattle.report_text.proofs.Common.{[], ℕ, ◌++◌, ◌∙◌, ◌∷◌, ◌≡◌, ap, Bytes, flat_map, Gives, gives_then, Item, item_text, List, subst}
use Rattle.std.proofs.Common.{codes, refl}
use Rattle.case_core.specs.Shown.{items_of}
use Rattle.wsm_items.specs.WorkItems.{items_in}
use Rattle.report_text.proofs.ends.put_items_line.Goals as goal

-- what a function writes of rows is what it writes of their items
of-rows : (f : Item → Bytes) (rows : List (ℕ × Item)) → flat_map (λ (r : ℕ × Item). f r.1) rows ≡ flat_map f (items_in rows)
of-rows f [] = refl
of-rows f (r ∷ rs) = ap (λ bytes. f r.1 ++ bytes) (of-rows f rs)

pub returns : goal.returns
returns g c =
    let file = c.args.file.now in
    let same : flat_map (λ (r : ℕ × Item). item_text file r.1) c.as_slice.result.now ≡ flat_map (item_text file) (items_of c.args.live.now) =
    of-rows (item_text file) c.as_slice.result.now
    ∙ ap (λ (rows : List (ℕ × Item)). flat_map (item_text file) (items_in rows)) c.as_slice.ensures.rows
    ∙ ap (flat_map (item_text file)) c.items.ensures.items in
    let P : Bytes → Type 0 = λ items. Gives g.K.Sink.written g.K.Sink.faults c.args.ok c.put.result c.args.sink.now c.put.new.sink (codes "items" ++ (items ++ codes "\n")) in
    subst P same
    (gives_then _ _ _ _ _ _ _ _ _ _ c.put-ok.ensures
    (gives_then _ _ _ _ _ _ _ _ _ _ c.put_items-ok.ensures c.put.ensures))

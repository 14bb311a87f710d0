use Rattle.wsm_adapt.proofs.{Common.{[], ℕ, ◌++◌, ◌∙◌, ◌∷◌, ap, cond, eqb, first, item_at, item_at-put, Mark, nil_from_length, Option, put_row, reverse, reverse-append, Some, sym}, KnownRows.{lookup-item, put-before, put-in_front}}
use Rattle.wsm_adapt.proofs.known.Known.set.Goals as goal

pub returns-in_ok-push : goal.returns-in_ok-push
returns-in_ok-push c = λ n.
    let r : ℕ × Option Mark = (c.args.node, c.args.mark) in
    let few = c.self.inside.few.items in
    let none = nil_from_length c.self.inside.others.entries (c.is_empty.ensures.0 c.if-is_empty.true) in
    ap (λ xs. item_at n (xs ++ reverse c.push.new.self.items)) none
    ∙ ap (λ xs. item_at n (reverse xs)) c.in_ok-push.ensures.items
    ∙ ap (item_at n) (reverse-append few (r ∷ []))
    ∙ put-in_front n r (reverse few)
    ∙ ap (λ xs. item_at n (put_row first r (xs ++ reverse few))) (sym none)
    ∙ ap (λ xs. item_at n (put_row first r xs)) c.self.view_is

pub returns-in_ok-insert : goal.returns-in_ok-insert
returns-in_ok-insert c = λ n.
    let r : ℕ × Option Mark = (c.args.node, c.args.mark) in
    let old = c.self.inside.others.entries in
    let new = c.insert.new.self.entries in
    let few = reverse c.self.inside.few.items in
    let told = sym (lookup-item n new) ∙ c.in_ok-insert.ensures.updates.0 n ∙ ap (cond (eqb c.args.node n) (Some c.args.mark)) (lookup-item n old) ∙ sym (item_at-put n r old) in
    put-before n r new old few told
    ∙ ap (λ xs. item_at n (put_row first r xs)) c.self.view_is

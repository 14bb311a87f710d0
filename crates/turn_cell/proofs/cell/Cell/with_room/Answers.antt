use Rattle.turn_cell.proofs.{Common.{[], ◌++◌, ◌∙◌, ◌∷◌, ◌≡◌, ◌≤◌, ap, first, Guarded, IsKept, opening, Some, subst, sym}, Closing.opens}
use Rattle.turn_cell.proofs.cell.Cell.with_room.Goals as goal

pub new-requires-2 : goal.new-requires-2
new-requires-2 g c =
    let m = g.M.Machine in
    let h : Guarded g.row.M.Denot g.row.M-Event.Denot g.row.M-Reply.Denot g.row.M-View.Denot g.row.M-State.Denot = record { machine = c.in_ok-machine.machine; journal = record { items = c.in_ok-items.items } } in
    let items : c.push_reserved.new.self.items ≡ Some h ∷ [] = c.push_reserved.ensures.items ∙ ap (λ zs. zs ++ Some h ∷ []) c.in_ok-slots.ensures.items in
    subst (λ xs. IsKept m.state m.after m.reply m.age (opening (0 ∷ 0 ∷ []) xs (first (m.state c.of-opening.result.value)))) (sym items)
    (subst (λ v. IsKept m.state m.after m.reply m.age (opening (0 ∷ 0 ∷ []) (Some h ∷ []) (first (m.state v)))) (sym c.of-opening.ensures)
    (subst (λ v. IsKept m.state m.after m.reply m.age (opening (0 ∷ 0 ∷ []) (Some h ∷ []) (first (m.state v)))) c.in_ok-machine.ensures.ok
    (opens m.state m.after m.reply m.age h c.in_ok-items.ensures.items (subst (λ v. m.age (m.state v) ≤ 60000000) (sym c.in_ok-machine.ensures.ok) c.requires))))

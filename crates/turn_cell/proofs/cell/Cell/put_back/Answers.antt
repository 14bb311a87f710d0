use Rattle.turn_cell.proofs.{Common.{[], ◌∙◌, ◌∷◌, ◌≡◌, ap, arith, IsStateAfter, rest, Some, subst, sym}, Turns.releases}
use Rattle.turn_cell.proofs.cell.Cell.put_back.Goals as goal

pub store-requires : goal.store-requires
store-requires g c =
    let m = g.M.Machine in
    let t = c.exchange.ensures in
    let v = c.exchange.new.seat.me in
    let view : v.0 ≡ c.args.seat.now.me.0 = ap (λ z. z.0) t.3 in
    let slot : v.1 ≡ (0, Some c.args.guarded) ∷ [] = ap (λ z. z.1) t.3 ∙ ap (λ zs. (0, Some c.args.guarded) ∷ rest zs) c.requires.turn.1 in (
      t.0 ∙ c.requires.cell,
      omega (arith, c.args.self.now.counts.0),
      releases m.state m.after m.reply m.age c.args.self.now.table.shared.table_id.slots c.exchange.new.seat.id v c.args.guarded
          (ap (λ z. z.phase) view ∙ c.requires.turn.0) slot (c.requires.same.0 ∙ sym (ap (λ z. z.seen) view))
          (subst (λ z. IsStateAfter m.after z.opening z.seen (m.state c.args.guarded.machine.value)) (sym view) c.requires.same.1),
    )

use Rattle.turn_cell.proofs.{Common.{[], ◌++◌, ◌+◌, ◌∙◌, ◌∷◌, ◌≡◌, ap, arith, carried_log, IsLegalFrom, IsStateAfter, length, length-append, rest, Some, subst, sym}, Turns.{releases, commits}}
use Rattle.turn_cell.proofs.cell.Cell.publish.Goals as goal

pub store-requires : goal.store-requires
store-requires g c =
    let m = g.M.Machine in
    let t = c.exchange.ensures in
    let v = c.exchange.new.seat.me in
    let e = c.requires.grown.0 in
    let xs = c.args.guarded.journal.items.items in
    let view : v.0 ≡ c.args.seat.now.me.0 = ap (λ z. z.0) t.3 in
    let slot : v.1 ≡ (0, Some c.args.guarded) ∷ [] = ap (λ z. z.1) t.3 ∙ ap (λ zs. (0, Some c.args.guarded) ∷ rest zs) c.requires.turn.1 in
    let long : length xs ≡ length c.args.seat.now.me.0.seen + 1 = ap length c.requires.grown.1 ∙ length-append c.args.seat.now.me.0.seen (e ∷ []) in (
      t.0 ∙ c.requires.cell,
      omega (arith, c.args.self.now.counts.0),
      commits m.state m.after m.reply m.age c.args.self.now.table.shared.table_id.slots c.exchange.new.seat.id v c.args.guarded e c.args.count
          (ap (λ z. z.phase) view ∙ c.requires.turn.0) slot (c.requires.grown.1 ∙ sym (ap (λ z. z.seen ++ e ∷ []) view)) (c.requires.grown.2 ∙ sym (ap (λ z. z.number) view))
          (c.requires.count ∙ sym long)
          (subst (λ z. IsLegalFrom m.after m.reply z.opening xs) (sym view) c.requires.legal)
          (subst (λ z. IsStateAfter m.after z.opening xs (m.state c.args.guarded.machine.value)) (sym view) c.requires.state)
          c.requires.young c.requires.short,
    )

pub store-requires-2 : goal.store-requires-2
store-requires-2 g c =
    let m = g.M.Machine in
    let t = c.exchange.ensures in
    let a = c.store.ensures in
    let v = c.exchange.new.seat.me in
    let w = c.store.new.seat.me in
    let xs = c.args.guarded.journal.items.items in
    let st = m.state c.args.guarded.machine.value in
    let slot : v.1 ≡ (0, Some c.args.guarded) ∷ [] = ap (λ z. z.1) t.3 ∙ ap (λ zs. (0, Some c.args.guarded) ∷ rest zs) c.requires.turn.1 in
    let opening : w.0.opening ≡ c.args.seat.now.me.0.opening = ap (λ z. z.0.opening) a.2 ∙ ap (λ z. z.0.opening) t.3 in
    let seen : w.0.seen ≡ xs = ap (λ z. z.0.seen) a.2 ∙ ap carried_log slot in (
      a.0 ∙ (t.0 ∙ c.requires.cell),
      omega (arith, c.args.self.now.counts.0),
      releases m.state m.after m.reply m.age c.args.self.now.table.shared.table_id.slots c.store.new.seat.id w c.args.guarded
          (ap (λ z. z.0.phase) a.2 ∙ (ap (λ z. z.0.phase) t.3 ∙ c.requires.turn.0)) (ap (λ z. z.1) a.2 ∙ slot) (sym seen)
          (subst (λ o. IsStateAfter m.after o w.0.seen st) (sym opening) (subst (λ ys. IsStateAfter m.after c.args.seat.now.me.0.opening ys st) (sym seen) c.requires.state)),
    )

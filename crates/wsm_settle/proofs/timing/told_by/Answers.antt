use Rattle.wsm_settle.proofs.Common.{◌+◌, ◌∙◌, ◌∷◌, ◌≡◌, add-one, ap, drop, drop-cons, suc, sym, told_rows}
use Rattle.wsm_settle.proofs.timing.told_by.Goals as goal

pub loop-position-preserved : goal.loop-position-preserved
loop-position-preserved c =
    let es = c.args.entries.now in
    let i = c.loop-position.position-index in
    let e = c.loop-position-item.result in
    let split : drop i es ≡ e ∷ drop (i + 1) es = rw (add-one, drop-cons es i e c.loop-position-test.true) (ap (λ x. x ∷ drop (suc i) es) (sym c.loop-position-item.is)) in
    ap (told_rows (drop (i + 1) es)) c.in_ok-note.ensures
    ∙ ap (λ l. told_rows l c.loop-position.changes) (sym split)
    ∙ c.loop-position.invariant

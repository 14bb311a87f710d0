use Rattle.wsm_settle.proofs.Common.{ℕ, ◌+◌, ◌∙◌, ◌∷◌, ◌≡◌, add-one, ap, drop, drop-cons, first, freed, freed_rows, List, Mark, Option, put_row, said, slice_index, sym}
use Rattle.wsm_settle.proofs.repeats.all_freed.Goals as goal

pub loop-node-preserved : goal.loop-node-preserved
loop-node-preserved c =
    let nodes = c.args.nodes.now in
    let i = c.loop-node.node-index in
    let e = c.args.end in
    let p = c.args.position in
    let n = slice_index nodes i in
    let split : drop i nodes ≡ n ∷ drop (i + 1) nodes = rw add-one (drop-cons nodes i 0 c.loop-node-test.true) in
    let row : c.set.new.self ≡ put_row first (n, said (freed e p n)) c.loop-node.changes = c.in_ok-set.ensures.ok ∙ ap (λ (x : Option Mark). put_row first (n, x) c.loop-node.changes) (c.said.ensures ∙ ap said c.freed.ensures) in
    ap (λ (rows : List (ℕ × Option Mark)). freed_rows e p (drop (i + 1) nodes) rows) row
    ∙ ap (λ (ns : List ℕ). freed_rows e p ns c.loop-node.changes) (sym split)
    ∙ c.loop-node.invariant

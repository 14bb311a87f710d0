use Rattle.wsm_lists.proofs.{Common.{◌+◌, ◌-◌, ◌<◌, ◌∙◌, ◌≡◌, ap, arith, last_number, length, sym, take}, Merges.last-taken}
use Rattle.wsm_lists.proofs.taking.last_number.Goals as goal

pub returns-else-kept-eq0 : goal.returns-else-kept-eq0
returns-else-kept-eq0 g c =
    let more : (c.args.kept - 1) + 1 ≡ c.args.kept = omega (arith, c.if-kept-eq0.false) in
    let inside : c.args.kept - 1 < length c.args.rows.now = omega (arith, c.requires, c.if-kept-eq0.false) in
    sym (last-taken c.args.rows.now (c.args.kept - 1) c.index-rows-kept.result inside) ∙ ap (λ k. last_number (take k c.args.rows.now)) more

use Rattle.wsm_ops.proofs.{Common.{◌++◌, ◌<◌, ◌∙◌, ◌≤◌, ap, arith, drop, items_at, length, on_ok_weaker, subst, sym, take}, JoinedRuns.{got-items, put-joined}}
use Rattle.wsm_ops.proofs.runs.put_before.Goals as goal

pub put_all-requires : goal.put_all-requires
put_all-requires c =
    let runs = c.args.runs.now.items in
    let same = got-items runs c.args.spot.run c.in-Some.run'.now c.requires.run c.in-Some.ensures.value in
    let low : c.args.spot.at < length c.in-Some.run'.now.items = subst (λ ps. c.args.spot.at < length ps) same c.requires.within in
    omega (arith, low)

pub returns-in-Some : goal.returns-in-Some
returns-in-Some c =
    let runs = c.args.runs.now.items in
    let at = c.args.spot.at in
    let low : at ≤ length (items_at runs c.args.spot.run) = omega (arith, c.requires.within) in
    let same = got-items runs c.args.spot.run c.in-Some.run'.now c.requires.run c.in-Some.ensures.value in
    on_ok_weaker c.put_all.result
    (λ is. put-joined runs c.args.spot.run at c.put_all.new.pieces c.args.new.now c.requires.run low (is ∙ ap (λ ps. take at ps ++ (c.args.new.now ++ drop at ps)) (sym same)))
    c.put_all.ensures

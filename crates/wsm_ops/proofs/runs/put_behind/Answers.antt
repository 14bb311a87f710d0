use Rattle.wsm_ops.proofs.{Common.{◌++◌, ◌+◌, ◌<◌, ◌∙◌, ◌≤◌, ap, arith, drop, items_at, joined, length, on_ok_weaker, subst, sym, take}, JoinedRuns.{got-items, place-next, put-joined}}
use Rattle.wsm_ops.proofs.runs.put_behind.Goals as goal

pub overflow_add-spot : goal.overflow_add-spot
overflow_add-spot c =
    let runs = c.args.runs.now.items in
    let same = got-items runs c.args.spot.run c.in-Some.run'.now c.requires.run c.in-Some.ensures.value in
    let low : c.args.spot.at < length c.in-Some.run'.now.items = subst (λ ps. c.args.spot.at < length ps) same c.requires.within in
    omega (arith, low, c.in-Some.run'.now.ok.0, c.in-Some.run'.now.ok.1)

pub put_all-requires : goal.put_all-requires
put_all-requires c =
    let runs = c.args.runs.now.items in
    let same = got-items runs c.args.spot.run c.in-Some.run'.now c.requires.run c.in-Some.ensures.value in
    let low : c.args.spot.at < length c.in-Some.run'.now.items = subst (λ ps. c.args.spot.at < length ps) same c.requires.within in
    omega (arith, low)

pub returns-in-Some : goal.returns-in-Some
returns-in-Some c =
    let runs = c.args.runs.now.items in
    let run = c.args.spot.run in
    let at = c.args.spot.at + 1 in
    let new = c.args.new.now in
    let low : at ≤ length (items_at runs run) = omega (arith, c.requires.within) in
    let same = got-items runs run c.in-Some.run'.now c.requires.run c.in-Some.ensures.value in
    on_ok_weaker c.put_all.result
    (λ is. put-joined runs run at c.put_all.new.pieces new c.requires.run low (is ∙ ap (λ ps. take at ps ++ (new ++ drop at ps)) (sym same))
    ∙ ap (λ p. take p (joined runs) ++ (new ++ drop p (joined runs))) (place-next runs run c.args.spot.at))
    c.put_all.ensures

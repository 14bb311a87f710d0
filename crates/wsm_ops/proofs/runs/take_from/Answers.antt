use Rattle.wsm_ops.proofs.{Common.{◌<◌, ◌∙◌, ap, arith, length, remove, subst, sym}, JoinedRuns.{got-items, take-joined}}
use Rattle.wsm_ops.proofs.runs.take_from.Goals as goal

pub remove-requires : goal.remove-requires
remove-requires c =
    let runs = c.args.runs.now.items in
    let same = got-items runs c.args.spot.run c.in-Some.run'.now c.requires.run c.in-Some.ensures.value in
    let low : c.args.spot.at < length c.in-Some.run'.now.items = subst (λ ps. c.args.spot.at < length ps) same c.requires.within in
    omega (arith, low)

pub returns-in-Some : goal.returns-in-Some
returns-in-Some c =
    let runs = c.args.runs.now.items in
    let same = got-items runs c.args.spot.run c.in-Some.run'.now c.requires.run c.in-Some.ensures.value in
    take-joined runs c.args.spot.run c.args.spot.at c.remove.new.self c.requires.run c.requires.within (c.remove.ensures.items ∙ ap (λ ps. remove ps c.args.spot.at) (sym same))

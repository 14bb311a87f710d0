use Rattle.wsm_ops.proofs.Common.{◌++◌, ◌+◌, ◌∙◌, ◌≡◌, ap, at_gap, drop, false, IsNoted, IsSpot, joined, list_any, passes, place_at, place_of, slice_get, subst, sym, take, true}
use Rattle.wsm_ops.specs.declared.operations.Gap.TheVariants.{After}
use Rattle.wsm_ops.proofs.JoinedRuns.{spot-place, spot-run, spot-within}
use Rattle.wsm_ops.proofs.NotedNodes.{put-noted}
use Rattle.wsm_ops.proofs.OnePlace.{before-found, before-absent}
use Rattle.wsm_ops.proofs.outlines.Outline.put_before.Goals as goal

pub put_before-requires-clause-run : goal.put_before-requires-clause-run
put_before-requires-clause-run c =
    let t = at_gap (After c.args.node) in
    let runs = c.all.inside.runs.items in
    spot-run t runs c.in-Some.spot.run c.in-Some.spot.at (subst (IsSpot t runs) c.in-Some.is (subst (λ rs. IsSpot t rs c.node_spot.result) c.deref.ensures.value c.node_spot.ensures))

pub put_before-requires-clause-within : goal.put_before-requires-clause-within
put_before-requires-clause-within c =
    let t = at_gap (After c.args.node) in
    let runs = c.all.inside.runs.items in
    spot-within t runs c.in-Some.spot.run c.in-Some.spot.at (subst (IsSpot t runs) c.in-Some.is (subst (λ rs. IsSpot t rs c.node_spot.result) c.deref.ensures.value c.node_spot.ensures))

pub invariant_of-all : goal.invariant_of-all
invariant_of-all c =
    let runs = c.all.inside.runs.items in
    let old = place_of c.all.inside.places in
    let new = place_of c.note_all.new.self in
    λ is. subst (IsNoted new) (sym c.in_ok-put_before-in-Some.ensures) (put-noted old new (place_at runs c.in-Some.spot.run c.in-Some.spot.at) c.args.new.now (joined runs) (c.all.invariant is) c.in_ok-note_all-in-Some.ensures)

pub returns-in-None : goal.returns-in-None
returns-in-None c =
    let t = at_gap (After c.args.node) in
    let runs = c.all.inside.runs.items in
    let none : list_any t (joined runs) ≡ false = subst (IsSpot t runs) c.in-None.is (subst (λ rs. IsSpot t rs c.node_spot.result) c.deref.ensures.value c.node_spot.ensures) in
    let v : joined runs ≡ c.args.self = c.all.view_is in
    sym (before-absent c.args.node c.args.self c.args.new.now (subst (λ ps. list_any t ps ≡ false) v none))

pub returns-in_ok-put_before-in-Some : goal.returns-in_ok-put_before-in-Some
returns-in_ok-put_before-in-Some c =
    let t = at_gap (After c.args.node) in
    let runs = c.all.inside.runs.items in
    let p = place_at runs c.in-Some.spot.run c.in-Some.spot.at in
    let spot = subst (IsSpot t runs) c.in-Some.is (subst (λ rs. IsSpot t rs c.node_spot.result) c.deref.ensures.value c.node_spot.ensures) in
    let v : joined runs ≡ c.args.self = c.all.view_is in
    let found = subst (λ ps. passes t (slice_get ps p) ≡ true) v (spot-place t runs c.in-Some.spot.run c.in-Some.spot.at spot) in
    c.in_ok-put_before-in-Some.ensures ∙ ap (λ ps. take (p) ps ++ (c.args.new.now ++ drop (p) ps)) v ∙ sym (before-found c.args.node c.args.self c.args.new.now p c.requires found)

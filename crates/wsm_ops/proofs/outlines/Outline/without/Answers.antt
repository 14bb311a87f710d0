use Rattle.wsm_ops.proofs.Common.{◌∙◌, ◌≡◌, ap, at_gap, false, IsNoted, IsSpot, joined, list_any, passes, place_at, place_of, remove, slice_get, subst, sym, true}
use Rattle.wsm_ops.specs.declared.operations.Gap.TheVariants.{After}
use Rattle.wsm_ops.proofs.JoinedRuns.{spot-place, spot-run, spot-within}
use Rattle.wsm_ops.proofs.NotedNodes.{removed-noted}
use Rattle.wsm_ops.proofs.OnePlace.{without-absent, without-found}
use Rattle.wsm_ops.proofs.outlines.Outline.without.Goals as goal

pub take_from-requires-clause-run : goal.take_from-requires-clause-run
take_from-requires-clause-run c =
    let t = at_gap (After c.args.node) in
    let runs = c.all.inside.runs.items in
    spot-run t runs c.in-Some.spot.run c.in-Some.spot.at (subst (IsSpot t runs) c.in-Some.is (subst (λ rs. IsSpot t rs c.node_spot.result) c.deref.ensures.value c.node_spot.ensures))

pub take_from-requires-clause-within : goal.take_from-requires-clause-within
take_from-requires-clause-within c =
    let t = at_gap (After c.args.node) in
    let runs = c.all.inside.runs.items in
    spot-within t runs c.in-Some.spot.run c.in-Some.spot.at (subst (IsSpot t runs) c.in-Some.is (subst (λ rs. IsSpot t rs c.node_spot.result) c.deref.ensures.value c.node_spot.ensures))

pub invariant_of-all : goal.invariant_of-all
invariant_of-all c =
    let runs = c.all.inside.runs.items in
    let place = place_of c.all.inside.places in
    λ is. subst (IsNoted place) (sym c.take_from.ensures) (removed-noted place (place_at runs c.in-Some.spot.run c.in-Some.spot.at) (joined runs) (c.all.invariant is))

pub returns-in-Some : goal.returns-in-Some
returns-in-Some c =
    let t = at_gap (After c.args.node) in
    let runs = c.all.inside.runs.items in
    let p = place_at runs c.in-Some.spot.run c.in-Some.spot.at in
    let v : joined runs ≡ c.args.self = c.all.view_is in
    let spot = subst (IsSpot t runs) c.in-Some.is (subst (λ rs. IsSpot t rs c.node_spot.result) c.deref.ensures.value c.node_spot.ensures) in
    let found = subst (λ ps. passes t (slice_get ps p) ≡ true) v (spot-place t runs c.in-Some.spot.run c.in-Some.spot.at spot) in
    c.take_from.ensures ∙ ap (λ ps. remove ps p) v ∙ sym (without-found c.args.node c.args.self p c.requires found)

pub returns-in_default : goal.returns-in_default
returns-in_default c =
    let t = at_gap (After c.args.node) in
    let runs = c.all.inside.runs.items in
    let v : joined runs ≡ c.args.self = c.all.view_is in
    let none : list_any t (joined runs) ≡ false = subst (IsSpot t runs) c.in_default.is (subst (λ rs. IsSpot t rs c.node_spot.result) c.deref.ensures.value c.node_spot.ensures) in
    sym (without-absent c.args.node c.args.self (subst (λ ps. list_any t ps ≡ false) v none))

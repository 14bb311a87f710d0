use Rattle.wsm_ops.proofs.Common.{◌∙◌, ◌≡◌, ap, at_gap, false, IsSpot, items_at, joined, list_any, passes, place_at, seat_there, slice_get, subst, sym, true}
use Rattle.wsm_ops.specs.declared.operations.Gap.TheVariants.{After}
use Rattle.wsm_ops.proofs.JoinedRuns.{spot-get, spot-place}
use Rattle.wsm_ops.proofs.OnePlace.{seat-absent, seat-found}
use Rattle.wsm_ops.proofs.outlines.Outline.seat.Goals as goal

pub returns-in-None : goal.returns-in-None
returns-in-None c =
    let t = at_gap (After c.args.node) in
    let runs = c.self.inside.runs.items in
    let none : list_any t (joined runs) ≡ false = subst (IsSpot t runs) c.in-None.is (subst (λ rs. IsSpot t rs c.node_spot.result) c.deref.ensures.value c.node_spot.ensures) in
    sym (seat-absent c.args.node c.args.self.now (subst (λ ps. list_any t ps ≡ false) c.self.view_is none))

pub returns-in-Some : goal.returns-in-Some
returns-in-Some c =
    let t = at_gap (After c.args.node) in
    let runs = c.self.inside.runs.items in
    let p = place_at runs c.in-Some.spot.run c.in-Some.spot.at in
    let spot = subst (IsSpot t runs) c.in-Some.is (subst (λ rs. IsSpot t rs c.node_spot.result) c.deref.ensures.value c.node_spot.ensures) in
    let found = subst (λ ps. passes t (slice_get ps p) ≡ true) c.self.view_is (spot-place t runs c.in-Some.spot.run c.in-Some.spot.at spot) in
    c.seat_in.ensures
    ∙ ap (λ rs. seat_there c.args.node (slice_get (items_at rs c.in-Some.spot.run) c.in-Some.spot.at)) c.deref-in-Some.ensures.value
    ∙ ap (seat_there c.args.node) (sym (spot-get t runs c.in-Some.spot.run c.in-Some.spot.at spot))
    ∙ ap (λ ps. seat_there c.args.node (slice_get ps p)) c.self.view_is
    ∙ sym (seat-found c.args.node c.args.self.now p c.requires found)

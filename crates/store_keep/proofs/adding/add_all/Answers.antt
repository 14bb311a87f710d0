use Rattle.store_keep.proofs.Common.{◌++◌, ◌+◌, ◌-◌, ◌∙◌, ◌≡◌, all_framed, ap, arith, drop, Err, err_from_is_err_and, held, HoldsBeginning, length, length-map, length-take-le, map, Overflows, payload_of, refl, started, subst}
use Rattle.store_keep.proofs.{Common.{sym, take, take-append-drop}, Additions.{group-more, moments, room-full, split-group}, Held.{beginning, begins-self, rest-image}}
use Rattle.store_room.specs.declared.faults.RoomFault.TheVariants as room
use Rattle.store_room.proofs.Grouped.{behind, over-behind, over-first, over-here}
use Rattle.store_keep.proofs.adding.add_all.Goals as goal

pub loop-stored-init : goal.loop-stored-init
loop-stored-init g c =
    let k = g.D.Disk in
    let disk = c.args.disk.now in
    let least = held (k.content disk) in
    let left = map payload_of (drop c.args.stored c.args.calls.now) in
    record {
      progress = record { rest = c.requires.rest; parts = refl; begins = begins-self least };
      short = c.requires.short;
      within = λ le. le;
      moments = started k.moment k.left_since disk (HoldsBeginning (least ++ left) least)
          (λ now held. beginning (least ++ left) least least now (rest-image k.content k.may_leave disk least c.args.gate c.requires.rest now (g.met.D.Disk.only_now disk now held)) (left, refl) (begins-self least));
      over = λ o. o;
      fits = λ o. o;
      steady = refl;
    }

pub returns-in_err-group-clause-full : goal.returns-in_err-group-clause-full
returns-in_err-group-clause-full g c =
    let l = c.loop-stored in
    let left = drop l.stored c.args.calls.now in
    let n = c.next_end-end.result.0 - l.stored in
    let told = err_from_is_err_and c.from_residual.result c.from_residual.ensures.1 in
    λ full.
    let same : c.in_err-group.field-0.0 ≡ room.Full = room-full c.in_err-group.field-0.0 (cc (full, told.1, told.2)) in
    l.invariant.over (subst (Overflows c.args.limit l.gate) (take-append-drop n left) (over-first c.args.limit l.gate (take n left) (drop n left) (c.in_err-group.ensures.full (ap Err same))))

pub append_group-requires : goal.append_group-requires
append_group-requires g c κs within =
    let k = g.D.Disk in
    let l = c.loop-stored in
    let first = c.in_ok-group.ensures.first in
    let phase = take (c.next_end-end.result.0 - l.stored) (drop l.stored c.args.calls.now) in
    let many : length c.in_ok-group.group ≡ c.in_ok-group.count =
    ap length first.are ∙ length-map (take c.in_ok-group.count phase) payload_of ∙ length-take-le c.in_ok-group.count phase first.within in
    (search, (l.invariant.progress.rest, (omega (arith, many, first.some), omega (arith, l.invariant.short))))

pub returns-in_err-gate-clause-any_moment : goal.returns-in_err-gate-clause-any_moment
returns-in_err-gate-clause-any_moment g c =
    let l = c.loop-stored in
    let first = c.in_ok-group.ensures.first in
    moments _ _ l.invariant.progress (split-group c.in_ok-group.count (c.next_end-end.result.0 - l.stored) l.stored c.args.calls.now first.within) first.are l.invariant.moments c.append_group.ensures.any_moment

pub loop-stored-preserved : goal.loop-stored-preserved
loop-stored-preserved g c =
    let l = c.loop-stored in
    let calls = c.args.calls.now in
    let limit = c.args.limit in
    let count = c.in_ok-group.count in
    let first = c.in_ok-group.ensures.first in
    let n = c.next_end-end.result.0 - l.stored in
    let group = take count (take n (drop l.stored calls)) in
    let rest = drop (l.stored + count) calls in
    let added = c.in_ok-gate.ensures in
    let split = split-group count n l.stored calls first.within in
    let at : c.in_ok-gate.gate ≡ behind l.gate group = added.next ∙ ap (λ ps. l.gate + length (all_framed ps)) first.are in
    record {
      progress = group-more _ _ l.invariant.progress split first.are added.acknowledged;
      short = omega (arith, added.next, first.short);
      within = λ le. omega (arith, added.size, l.invariant.within le, first.short);
      moments = moments _ _ l.invariant.progress split first.are l.invariant.moments c.append_group.ensures.any_moment;
      over = λ o. l.invariant.over (subst (Overflows limit l.gate) (sym split) (over-here limit l.gate group rest (subst (λ g. Overflows limit g rest) at o)));
      fits = λ o. subst (λ g. Overflows limit g rest) (sym at) (over-behind limit l.gate group rest first.fits (subst (Overflows limit l.gate) split (l.invariant.fits o)));
      steady = added.no_fault ∙ l.invariant.steady;
    }

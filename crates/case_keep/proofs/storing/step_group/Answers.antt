use Rattle.case_keep.proofs.Common.{◌++◌, ◌+◌, ◌-◌, ◌∙◌, ◌≡◌, AddsFirst, ap, arith, drop, Err, IsStore, length, length-drop, length-take, Overflows, subst, sym, take}
use Rattle.case_keep.proofs.Stepped.{group-moments, phase, phase-first, phase-fits, phase-known, phase-over, phase-within, step-full}
use Rattle.case_keep.proofs.storing.step_group.Goals as goal
use Rattle.case_store.specs.declared.refusals.StoreFault.TheVariants as store_fault

pub step_first-requires : goal.step_first-requires
step_first-requires g c κs within =
    let k = g.D.Disk in
    let calls = c.args.calls.now in
    let s = c.args.stored in
    let e = c.args.end in
    let store = subst (IsStore k.content k.may_leave g.past.counts c.args.store.now) c.requires.1.1.1.1.1.0 c.requires.1.1.1.1.1.1.0 in
    (search, (λ _. c.requires.1.1.1.1.1.1.0, (omega (arith, length-take (e - s) (drop s calls), length-drop s calls, c.requires.1.1.0, c.requires.1.1.1.0), (phase-known calls s e g.past.counts c.args.store.now.held store.fold c.requires.1.0, c.requires.1.1.1.1.0))))

pub returns-in-Ok-clause-acknowledged : goal.returns-in-Ok-clause-acknowledged
returns-in-Ok-clause-acknowledged g c =
    let k = g.D.Disk in
    let calls = c.args.calls.now in
    let s = c.args.stored in
    let e = c.args.end in
    let new = c.step_first.new.self in
    let n = length c.in-Ok.replies.items in
    let many : c.len.result ≡ n = omega (arith, c.len.ensures, c.in-Ok.replies.ok.0) in
    let le = phase-within calls s e n c.in-Ok.ensures.first.within in
    subst (λ m. IsStore k.content k.may_leave g.past.counts new (take (s + m) calls)) (sym many)
    (subst (IsStore k.content k.may_leave g.past.counts new) (ap (λ rs. rs ++ take n (phase calls s e)) c.requires.1.1.1.1.1.0 ∙ phase-first calls s e n le) c.in-Ok.ensures.acknowledged)

pub returns-in-Ok-clause-fits : goal.returns-in-Ok-clause-fits
returns-in-Ok-clause-fits g c =
    let k = g.D.Disk in
    let calls = c.args.calls.now in
    let s = c.args.stored in
    let e = c.args.end in
    let n = length c.in-Ok.replies.items in
    let many : c.len.result ≡ n = omega (arith, c.len.ensures, c.in-Ok.replies.ok.0) in
    let store = subst (IsStore k.content k.may_leave g.past.counts c.args.store.now) c.requires.1.1.1.1.1.0 c.requires.1.1.1.1.1.1.0 in
    subst (λ m. Overflows c.args.limit 0 (take (s + m) calls) → ⊥) (sym many)
    (phase-fits calls s e c.args.limit c.args.store.now.gate store.rest.ends.stands n (phase-within calls s e n c.in-Ok.ensures.first.within) c.requires.1.1.1.1.1.1.1.1 c.in-Ok.ensures.first.fits)

pub returns-in-Ok-clause-any_moment : goal.returns-in-Ok-clause-any_moment
returns-in-Ok-clause-any_moment g c =
    let k = g.D.Disk in
    let calls = c.args.calls.now in
    let old = c.args.store.now.disk in
    let new = c.step_first.new.self.disk in
    group-moments calls c.args.stored c.args.end k.moment k.left_since old new
    (subst (λ rs. AddsFirst k.moment k.left_since rs (phase calls c.args.stored c.args.end) old new) c.requires.1.1.1.1.1.0 (c.step_first.ensures.any_moment c.requires.1.1.1.1.1.1.1.0))

pub returns-in-Err-clause-full : goal.returns-in-Err-clause-full
returns-in-Err-clause-full g c full =
    let k = g.D.Disk in
    let store = subst (IsStore k.content k.may_leave g.past.counts c.args.store.now) c.requires.1.1.1.1.1.0 c.requires.1.1.1.1.1.1.0 in
    let is : c.in-Err.fault ≡ store_fault.Full = step-full c.in-Err.fault (cc (full, c.fault_of.ensures)) in
    phase-over c.args.calls.now c.args.stored c.args.end c.args.limit c.args.store.now.gate store.rest.ends.stands (c.in-Err.ensures.full (ap Err is))

pub returns-in-Err-clause-any_moment : goal.returns-in-Err-clause-any_moment
returns-in-Err-clause-any_moment g c =
    let k = g.D.Disk in
    let calls = c.args.calls.now in
    let old = c.args.store.now.disk in
    let new = c.step_first.new.self.disk in
    group-moments calls c.args.stored c.args.end k.moment k.left_since old new
    (subst (λ rs. AddsFirst k.moment k.left_since rs (phase calls c.args.stored c.args.end) old new) c.requires.1.1.1.1.1.0 (c.step_first.ensures.any_moment c.requires.1.1.1.1.1.1.1.0))

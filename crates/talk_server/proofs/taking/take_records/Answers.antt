use Rattle.talk_server.proofs.{Common.{ℕ, ◌+◌, ◌-◌, ◌∙◌, ◌≡◌, ap, arith, drop, false, is_next, IsFrame, List, refl, subst, sym, take, take_rest, true, units_behind}, Taken.{begins, cut-here, ends-here, goes-on, refused-here}}
use Rattle.store_disk.specs.declared.frames.Frame.TheVariants as front
use Rattle.talk_server.proofs.taking.take_records.Goals as goal

pub loop-holder-init : goal.loop-holder-init
loop-holder-init g c = begins g.H.Holder.rules g.H.Holder.holds c.args.records.now c.in_ok-holder.holder c.in_ok-holder.ensures

pub returns-in-Closed-clause-held : goal.returns-in-Closed-clause-held
returns-in-Closed-clause-held g c =
    let l = c.loop-holder in
    ends-here g.H.Holder.rules g.H.Holder.holds c.args.records.now l.rest.now l.place l.holder l.invariant c.in-Closed.ensures

pub returns-in-Damaged-clause-damaged : goal.returns-in-Damaged-clause-damaged
returns-in-Damaged-clause-damaged g c =
    let l = c.loop-holder in
    cut-here g.H.Holder.rules g.H.Holder.holds c.args.records.now l.rest.now l.place l.holder l.invariant c.in-Damaged.ensures

pub returns-then-not-branch-clause-damaged : goal.returns-then-not-branch-clause-damaged
returns-then-not-branch-clause-damaged g c =
    let l = c.loop-holder in
    let n = c.in-Record.len in
    let here : IsFrame l.rest.now (front.Record n) = c.in-Record.ensures in
    let p : List ℕ = take (5 + n - 5) (drop 5 l.rest.now) in
    let bytes : p ≡ take n (drop 5 l.rest.now) = ap (λ m. take m (drop 5 l.rest.now)) (omega arith) in
    let told : is_next g.H.Holder.rules l.invariant.units p ≡ false = sym (c.in_ok-take_record-in-Record.ensures.taken l.invariant.units l.invariant.kept) ∙ c.if-not-branch.true in
    refused-here g.H.Holder.rules g.H.Holder.holds c.args.records.now l.rest.now l.place l.holder l.invariant n p (drop (5 + n) l.rest.now) here bytes refl told

pub overflow_add-place-in-Record : goal.overflow_add-place-in-Record
overflow_add-place-in-Record g c =
    let l = c.loop-holder in
    let n = c.in-Record.len in
    let here : IsFrame l.rest.now (front.Record n) = c.in-Record.ensures in
    omega (arith, here.0, l.invariant.long, c.requires)

pub loop-holder-preserved : goal.loop-holder-preserved
loop-holder-preserved g c =
    let l = c.loop-holder in
    let n = c.in-Record.len in
    let here : IsFrame l.rest.now (front.Record n) = c.in-Record.ensures in
    let p : List ℕ = take (5 + n - 5) (drop 5 l.rest.now) in
    let bytes : p ≡ take n (drop 5 l.rest.now) = ap (λ m. take m (drop 5 l.rest.now)) (omega arith) in
    let told : is_next g.H.Holder.rules l.invariant.units p ≡ true = sym (c.in_ok-take_record-in-Record.ensures.taken l.invariant.units l.invariant.kept) ∙ c.if-not-branch.false in
    let kept = subst (λ b. g.H.Holder.holds c.take_record.new.holder (units_behind b l.invariant.units p)) c.if-not-branch.false (c.in_ok-take_record-in-Record.ensures.holds l.invariant.units l.invariant.kept) in
    goes-on g.H.Holder.rules g.H.Holder.holds c.args.records.now l.rest.now l.place l.holder l.invariant n p _ here bytes (take_rest l.rest.now (5 + n)) c.take_record.new.holder _ (omega arith) told kept

use Rattle.talk_server.proofs.Common.{ℕ, ◌++◌, ◌-◌, ◌^◌, ◌∙◌, ◌≡◌, ◌≤◌, ap, arith, damaged_at, drop, Err, framed, header, IsSettled, length, List, opening, Rose, subst, sym, take, take_rest, unopened, with_gate}
use Rattle.talk_server.specs.declared.faults.ServeFault.TheVariants as fault
use Rattle.talk_server.proofs.Opens.{begun-causes, begun-damaged, begun-long, begun-moments, begun-open, begun-rose, gate-again, headed-long, if-err, left-alone, other-told, read-moments, rest-empty, same-err, taken-causes, taken-failed, taken-long, taken-open, taken-told, unread-causes, unread-damaged, unread-failed, unread-long}
use Rattle.talk_server.proofs.opening.open.Goals as goal

pub returns-in_err-image-clause-damaged : goal.returns-in_err-image-clause-damaged
returns-in_err-image-clause-damaged g c =
    let r = c.in_err-image.field-0.0 in
    rw (same-err c.from_residual.result _ c.from_residual.ensures.1) (λ place at. unread-damaged r place at)

pub returns-in_err-image-clause-left : goal.returns-in_err-image-clause-left
returns-in_err-image-clause-left g c =
    let r = c.in_err-image.field-0.0 in
    rw (same-err c.from_residual.result _ c.from_residual.ensures.1) (λ place at. unread-damaged r place at)

pub returns-in_err-image-clause-too_long : goal.returns-in_err-image-clause-too_long
returns-in_err-image-clause-too_long g c =
    let r = c.in_err-image.field-0.0 in
    rw (same-err c.from_residual.result _ c.from_residual.ensures.1) (λ long. let same : unopened r ≡ fault.TooLong = cc in c.in_err-image.ensures.too_long (ap (λ w. Err w) (unread-long r same)))

pub returns-in_err-image-clause-causes : goal.returns-in_err-image-clause-causes
returns-in_err-image-clause-causes g c =
    let r = c.in_err-image.field-0.0 in
    rw (same-err c.from_residual.result _ c.from_residual.ensures.1) (unread-causes r)

pub returns-in_err-image-clause-any_moment : goal.returns-in_err-image-clause-any_moment
returns-in_err-image-clause-any_moment g c =
    let k = g.D.Disk in
    read-moments k.content k.may_leave k.moment k.left_since g.H.Holder.rules c.args.disk.now c.open_image.new.disk c.open_image.ensures.any_moment

pub returns-in_err-image-clause-rose : goal.returns-in_err-image-clause-rose
returns-in_err-image-clause-rose g c =
    let r = c.in_err-image.field-0.0 in
    rw (same-err c.from_residual.result _ c.from_residual.ensures.1) (λ failed. c.in_err-image.ensures.rose (ap (λ w. Err w) (unread-failed r failed)))

pub front_of-requires : goal.front_of-requires
front_of-requires g c =
    let is : c.as_slice-bytes.result.now ≡ with_gate (g.D.Disk.content c.args.disk.now) = c.as_slice-bytes.ensures.value ∙ c.in_ok-image.ensures.bytes in
    record { gate = ap with_gate is ∙ gate-again (g.D.Disk.content c.args.disk.now) ∙ sym is }

pub begin-requires : goal.begin-requires
begin-requires g c =
    let k = g.D.Disk in
    let image = c.as_slice-bytes.result.now in
    let mid = c.open_image.new.disk in
    let settled : IsSettled k.content k.may_leave mid image = subst (IsSettled k.content k.may_leave mid) (sym c.as_slice-bytes.ensures.value) c.in_ok-image.ensures.settled in
    record { rest = rest-empty k.content k.may_leave k.moment k.left_since g.H.Holder.rules c.args.disk.now mid image settled (c.as_slice-bytes.ensures.value ∙ c.in_ok-image.ensures.bytes) c.in-Unbegun.ensures }

pub returns-in-Unbegun-clause-opened : goal.returns-in-Unbegun-clause-opened
returns-in-Unbegun-clause-opened g c =
    let k = g.D.Disk in
    let image = c.as_slice-bytes.result.now in
    let mid = c.open_image.new.disk in
    let settled : IsSettled k.content k.may_leave mid image = subst (IsSettled k.content k.may_leave mid) (sym c.as_slice-bytes.ensures.value) c.in_ok-image.ensures.settled in
    begun-open k.content k.may_leave k.moment k.left_since g.H.Holder.rules c.args.disk.now mid image settled (c.as_slice-bytes.ensures.value ∙ c.in_ok-image.ensures.bytes) c.in-Unbegun.ensures
    g.H.Holder.holds c.begin.new.disk c.begin.result c.begin.ensures.holds c.begin.ensures.rest c.begin.ensures.gate

pub returns-in-Unbegun-clause-damaged : goal.returns-in-Unbegun-clause-damaged
returns-in-Unbegun-clause-damaged g c = if-err c.begin.result _ _ (λ e causes place at. begun-damaged e place causes at) c.begin.ensures.causes

pub returns-in-Unbegun-clause-left : goal.returns-in-Unbegun-clause-left
returns-in-Unbegun-clause-left g c = if-err c.begin.result _ _ (λ e causes place at. begun-damaged e place causes at) c.begin.ensures.causes

pub returns-in-Unbegun-clause-too_long : goal.returns-in-Unbegun-clause-too_long
returns-in-Unbegun-clause-too_long g c = λ long. begun-long c.begin.result c.begin.ensures.causes long

pub returns-in-Unbegun-clause-causes : goal.returns-in-Unbegun-clause-causes
returns-in-Unbegun-clause-causes g c = if-err c.begin.result _ _ begun-causes c.begin.ensures.causes

pub returns-in-Unbegun-clause-any_moment : goal.returns-in-Unbegun-clause-any_moment
returns-in-Unbegun-clause-any_moment g c =
    let k = g.D.Disk in
    let image = c.as_slice-bytes.result.now in
    let mid = c.open_image.new.disk in
    let settled : IsSettled k.content k.may_leave mid image = subst (IsSettled k.content k.may_leave mid) (sym c.as_slice-bytes.ensures.value) c.in_ok-image.ensures.settled in
    begun-moments k.content k.may_leave k.moment k.left_since g.H.Holder.rules c.args.disk.now mid image settled (c.as_slice-bytes.ensures.value ∙ c.in_ok-image.ensures.bytes) c.in-Unbegun.ensures
    (g.met.D.Disk.content_may_stay c.args.disk.now) c.begin.new.disk c.open_image.ensures.any_moment c.begin.ensures.any_moment

pub returns-in-Unbegun-clause-rose : goal.returns-in-Unbegun-clause-rose
returns-in-Unbegun-clause-rose g c =
    let k = g.D.Disk in
    begun-rose c.begin.result (Rose (k.faults c.args.disk.now) (k.faults c.begin.new.disk)) c.begin.ensures.causes
    (λ failed. subst (λ n. Rose n (k.faults c.begin.new.disk)) c.in_ok-image.ensures.no_fault (c.begin.ensures.rose failed))

pub slice_bounds-take_records-count : goal.slice_bounds-take_records-count
slice_bounds-take_records-count g c =
    let image = c.as_slice-bytes.result.now in
    omega (arith, headed-long image (drop 13 image) c.in-Header.ensures)

pub slice_bounds-take_records-start : goal.slice_bounds-take_records-start
slice_bounds-take_records-start g c =
    let image = c.as_slice-bytes.result.now in
    omega (arith, headed-long image (drop 13 image) c.in-Header.ensures)

pub slice_bounds-take_records-end : goal.slice_bounds-take_records-end
slice_bounds-take_records-end g c =
    let image = c.as_slice-bytes.result.now in
    omega (arith, headed-long image (drop 13 image) c.in-Header.ensures)

pub take_records-requires : goal.take_records-requires
take_records-requires g c =
    let k = g.D.Disk in
    let image = c.as_slice-bytes.result.now in
    let mid = c.open_image.new.disk in
    let records : List ℕ = take (length image - 13) (drop 13 image) in
    let headed : image ≡ framed header ++ records = c.in-Header.ensures ∙ ap (λ r. framed header ++ r) (sym (take_rest image 13)) in
    record { within = omega (arith, headed-long image records headed, ap length c.as_slice-bytes.ensures.value, c.in_ok-image.ensures.within) }

pub returns-in-Header-clause-opened : goal.returns-in-Header-clause-opened
returns-in-Header-clause-opened g c =
    let k = g.D.Disk in
    let image = c.as_slice-bytes.result.now in
    let mid = c.open_image.new.disk in
    let records : List ℕ = take (length image - 13) (drop 13 image) in
    let headed : image ≡ framed header ++ records = c.in-Header.ensures ∙ ap (λ r. framed header ++ r) (sym (take_rest image 13)) in
    let is : image ≡ with_gate (k.content c.args.disk.now) = c.as_slice-bytes.ensures.value ∙ c.in_ok-image.ensures.bytes in
    let settled : IsSettled k.content k.may_leave mid image = subst (IsSettled k.content k.may_leave mid) (sym c.as_slice-bytes.ensures.value) c.in_ok-image.ensures.settled in
    let within : length image ≤ 2 ^ 30 = omega (arith, ap length c.as_slice-bytes.ensures.value, c.in_ok-image.ensures.within) in
    taken-open k.content k.may_leave k.moment k.left_since g.H.Holder.rules c.args.disk.now mid image settled is records headed g.H.Holder.holds c.take_records.result within c.take_records.ensures.held

pub returns-in-Header-clause-damaged : goal.returns-in-Header-clause-damaged
returns-in-Header-clause-damaged g c =
    let k = g.D.Disk in
    let image = c.as_slice-bytes.result.now in
    let mid = c.open_image.new.disk in
    let records : List ℕ = take (length image - 13) (drop 13 image) in
    let headed : image ≡ framed header ++ records = c.in-Header.ensures ∙ ap (λ r. framed header ++ r) (sym (take_rest image 13)) in
    let is : image ≡ with_gate (k.content c.args.disk.now) = c.as_slice-bytes.ensures.value ∙ c.in_ok-image.ensures.bytes in
    let settled : IsSettled k.content k.may_leave mid image = subst (IsSettled k.content k.may_leave mid) (sym c.as_slice-bytes.ensures.value) c.in_ok-image.ensures.settled in
    if-err c.take_records.result _ _ (λ e tells place at. taken-told k.content k.may_leave k.moment k.left_since g.H.Holder.rules c.args.disk.now mid image settled is records headed e place tells at) c.take_records.ensures.damaged

pub returns-in-Header-clause-left : goal.returns-in-Header-clause-left
returns-in-Header-clause-left g c =
    let k = g.D.Disk in
    let image = c.as_slice-bytes.result.now in
    let mid = c.open_image.new.disk in
    let records : List ℕ = take (length image - 13) (drop 13 image) in
    let headed : image ≡ framed header ++ records = c.in-Header.ensures ∙ ap (λ r. framed header ++ r) (sym (take_rest image 13)) in
    let is : image ≡ with_gate (k.content c.args.disk.now) = c.as_slice-bytes.ensures.value ∙ c.in_ok-image.ensures.bytes in
    let settled : IsSettled k.content k.may_leave mid image = subst (IsSettled k.content k.may_leave mid) (sym c.as_slice-bytes.ensures.value) c.in_ok-image.ensures.settled in
    if-err c.take_records.result _ _
    (λ e tells place at. left-alone k.content k.may_leave k.moment k.left_since g.H.Holder.rules c.args.disk.now mid image settled is place (taken-told k.content k.may_leave k.moment k.left_since g.H.Holder.rules c.args.disk.now mid image settled is records headed e place tells at))
    c.take_records.ensures.damaged

pub returns-in-Header-clause-too_long : goal.returns-in-Header-clause-too_long
returns-in-Header-clause-too_long g c =
    let image = c.as_slice-bytes.result.now in
    let records : List ℕ = take (length image - 13) (drop 13 image) in
    λ long. taken-long g.H.Holder.rules records c.take_records.result c.take_records.ensures.damaged long

pub returns-in-Header-clause-causes : goal.returns-in-Header-clause-causes
returns-in-Header-clause-causes g c =
    let image = c.as_slice-bytes.result.now in
    let records : List ℕ = take (length image - 13) (drop 13 image) in
    if-err c.take_records.result _ _ (taken-causes g.H.Holder.rules records) c.take_records.ensures.damaged

pub returns-in-Header-clause-rose : goal.returns-in-Header-clause-rose
returns-in-Header-clause-rose g c =
    let image = c.as_slice-bytes.result.now in
    let records : List ℕ = take (length image - 13) (drop 13 image) in
    if-err c.take_records.result _ _ (λ e is failed. taken-failed g.H.Holder.rules records e is failed) c.take_records.ensures.damaged

pub returns-in-Header-clause-any_moment : goal.returns-in-Header-clause-any_moment
returns-in-Header-clause-any_moment g c =
    let k = g.D.Disk in
    read-moments k.content k.may_leave k.moment k.left_since g.H.Holder.rules c.args.disk.now c.open_image.new.disk c.open_image.ensures.any_moment

pub returns-clause-any_moment : goal.returns-clause-any_moment
returns-clause-any_moment g c =
    let k = g.D.Disk in
    read-moments k.content k.may_leave k.moment k.left_since g.H.Holder.rules c.args.disk.now c.open_image.new.disk c.open_image.ensures.any_moment

pub returns-clause-damaged : goal.returns-clause-damaged
returns-clause-damaged g c =
    let k = g.D.Disk in
    let image = c.as_slice-bytes.result.now in
    let mid = c.open_image.new.disk in
    let settled : IsSettled k.content k.may_leave mid image = subst (IsSettled k.content k.may_leave mid) (sym c.as_slice-bytes.ensures.value) c.in_ok-image.ensures.settled in
    λ place at.
    let zero : 0 ≡ place = cc in
    subst (λ n. opening g.H.Holder.rules (k.content c.args.disk.now) ≡ damaged_at n) zero
    (other-told k.content k.may_leave k.moment k.left_since g.H.Holder.rules c.args.disk.now mid image settled (c.as_slice-bytes.ensures.value ∙ c.in_ok-image.ensures.bytes) c.in-Other.ensures)

pub returns-clause-left : goal.returns-clause-left
returns-clause-left g c =
    let k = g.D.Disk in
    let image = c.as_slice-bytes.result.now in
    let mid = c.open_image.new.disk in
    let is = c.as_slice-bytes.ensures.value ∙ c.in_ok-image.ensures.bytes in
    let settled : IsSettled k.content k.may_leave mid image = subst (IsSettled k.content k.may_leave mid) (sym c.as_slice-bytes.ensures.value) c.in_ok-image.ensures.settled in
    λ place at.
    left-alone k.content k.may_leave k.moment k.left_since g.H.Holder.rules c.args.disk.now mid image settled is 0
    (other-told k.content k.may_leave k.moment k.left_since g.H.Holder.rules c.args.disk.now mid image settled is c.in-Other.ensures)

use Rattle.talk_server.proofs.{Common.{◌≡◌, ap, Err, held, inl, refl, Rose, rules, subst}, Opens.same-err, Serves.{disk-cut, ends-cut, ends-well, has-answered, has-any-answered, if-any, if-some, no-long-talk, no-read-fault, no-write-fault}}
use Rattle.talk_server.proofs.Serves.{opening-moments, rest-again, says-all, says-some, serves-first, talk-moments, told-again, unopened-ends}
use Rattle.talk_server.proofs.serving.serve.Goals as goal
use Rattle.talk_server.specs.declared.faults.ServeFault.TheVariants as fault
use Rattle.turn_loop.specs.declared.faults.TalkFault.TheVariants as cut

pub returns-in_err-state-clause-ended : goal.returns-in_err-state-clause-ended
returns-in_err-state-clause-ended g c =
    let k = g.D.Disk in
    rw (same-err c.from_residual.result _ c.from_residual.ensures.1) (unopened-ends g.H.Holder.rules k.content k.may_leave k.moment k.left_since c.args.disk.now c.open.new.disk (g.S.Source.left c.args.source.now) (g.K.Sink.written c.args.sink.now) c.in_err-state.field-0.0 c.in_err-state.ensures.causes)

pub returns-in_err-state-clause-begun : goal.returns-in_err-state-clause-begun
returns-in_err-state-clause-begun g c =
    rw (same-err c.from_residual.result _ c.from_residual.ensures.1) (if-any (g.S.Source.left c.args.source.now) _ (λ talk. inl refl))

pub returns-in_err-state-clause-none_lost : goal.returns-in_err-state-clause-none_lost
returns-in_err-state-clause-none_lost g c =
    rw (same-err c.from_residual.result _ c.from_residual.ensures.1) (if-any (g.S.Source.left c.args.source.now) _ (λ talk. inl refl))

pub returns-in_err-state-clause-any_moment : goal.returns-in_err-state-clause-any_moment
returns-in_err-state-clause-any_moment g c =
    let k = g.D.Disk in
    opening-moments g.H.Holder.rules k.content k.may_leave k.moment k.left_since c.args.disk.now c.open.new.disk (g.S.Source.left c.args.source.now) c.open.ensures.any_moment

pub returns-in_err-state-clause-untouched : goal.returns-in_err-state-clause-untouched
returns-in_err-state-clause-untouched g c =
    rw (same-err c.from_residual.result _ c.from_residual.ensures.1) (λ store. (refl, refl))

pub returns-in_err-state-clause-damaged : goal.returns-in_err-state-clause-damaged
returns-in_err-state-clause-damaged g c =
    rw (same-err c.from_residual.result _ c.from_residual.ensures.1) c.in_err-state.ensures.damaged

pub returns-in_err-state-clause-left : goal.returns-in_err-state-clause-left
returns-in_err-state-clause-left g c =
    rw (same-err c.from_residual.result _ c.from_residual.ensures.1) c.in_err-state.ensures.left

pub returns-in_err-state-clause-too_long : goal.returns-in_err-state-clause-too_long
returns-in_err-state-clause-too_long g c =
    let e0 = c.in_err-state.field-0.0 in
    rw (same-err c.from_residual.result _ c.from_residual.ensures.1) (λ long. let same : e0 ≡ fault.TooLong = cc in c.in_err-state.ensures.too_long (ap (λ w. Err w) same))

pub returns-in_err-state-clause-talk_too_long : goal.returns-in_err-state-clause-talk_too_long
returns-in_err-state-clause-talk_too_long g c =
    rw (same-err c.from_residual.result _ c.from_residual.ensures.1) (if-any (g.S.Source.left c.args.source.now) _ (λ talk long. let same : c.in_err-state.field-0.0 ≡ fault.Talk cut.TooLong = cc in no-long-talk c.in_err-state.field-0.0 c.in_err-state.ensures.causes same))

pub returns-in_err-state-clause-source_failed : goal.returns-in_err-state-clause-source_failed
returns-in_err-state-clause-source_failed g c =
    rw (same-err c.from_residual.result _ c.from_residual.ensures.1) (λ failed. let same : c.in_err-state.field-0.0 ≡ fault.Talk cut.Unread = cc in no-read-fault c.in_err-state.field-0.0 c.in_err-state.ensures.causes same)

pub returns-in_err-state-clause-sink_failed : goal.returns-in_err-state-clause-sink_failed
returns-in_err-state-clause-sink_failed g c =
    rw (same-err c.from_residual.result _ c.from_residual.ensures.1) (λ failed. let same : c.in_err-state.field-0.0 ≡ fault.Talk cut.Unwritten = cc in no-write-fault c.in_err-state.field-0.0 c.in_err-state.ensures.causes same)

pub returns-in_err-state-clause-disk_failed : goal.returns-in_err-state-clause-disk_failed
returns-in_err-state-clause-disk_failed g c =
    rw (same-err c.from_residual.result _ c.from_residual.ensures.1) c.in_err-state.ensures.rose

pub returns-in-Ok-clause-ended : goal.returns-in-Ok-clause-ended
returns-in-Ok-clause-ended g c =
    let k = g.D.Disk in
    let old = c.args.disk.now in
    let mid = c.open.new.disk in
    let o = c.in_ok-state.ensures.opened in
    let s = c.in_ok-state.state in
    let gate = c.in_ok-state.gate in
    let told = told-again g.H.Holder.rules g.H.Holder.holds k.content k.may_leave (k.content old) mid s gate o in
    let rest = rest-again g.H.Holder.rules g.H.Holder.holds k.content k.may_leave (k.content old) mid s gate o in
    ends-well g.H.Holder.rules k.content k.may_leave k.moment k.left_since old mid c.serve_turns-end.new.disk (held (k.content mid)) gate told rest c.open.ensures.any_moment (g.S.Source.left c.args.source.now) (g.S.Source.left c.serve_turns-end.new.source) (g.K.Sink.written c.args.sink.now) (g.K.Sink.written c.serve_turns-end.new.sink) _ c.in-Ok.ensures.ended

pub returns-in-Ok-clause-answered : goal.returns-in-Ok-clause-answered
returns-in-Ok-clause-answered g c =
    let k = g.D.Disk in
    let old = c.args.disk.now in
    let mid = c.open.new.disk in
    let o = c.in_ok-state.ensures.opened in
    let s = c.in_ok-state.state in
    let gate = c.in_ok-state.gate in
    let told = told-again g.H.Holder.rules g.H.Holder.holds k.content k.may_leave (k.content old) mid s gate o in
    let rest = rest-again g.H.Holder.rules g.H.Holder.holds k.content k.may_leave (k.content old) mid s gate o in
    says-all g.H.Holder.rules k.content k.may_leave k.moment k.left_since old mid c.serve_turns-end.new.disk (held (k.content mid)) gate told rest c.open.ensures.any_moment (g.S.Source.left c.args.source.now) (g.K.Sink.written c.args.sink.now) (g.K.Sink.written c.serve_turns-end.new.sink) c.in-Ok.ensures.answered

pub returns-in-Ok-clause-any_moment : goal.returns-in-Ok-clause-any_moment
returns-in-Ok-clause-any_moment g c =
    let k = g.D.Disk in
    let old = c.args.disk.now in
    let mid = c.open.new.disk in
    let o = c.in_ok-state.ensures.opened in
    let s = c.in_ok-state.state in
    let gate = c.in_ok-state.gate in
    let told = told-again g.H.Holder.rules g.H.Holder.holds k.content k.may_leave (k.content old) mid s gate o in
    let rest = rest-again g.H.Holder.rules g.H.Holder.holds k.content k.may_leave (k.content old) mid s gate o in
    talk-moments g.H.Holder.rules k.content k.may_leave k.moment k.left_since old mid c.serve_turns-end.new.disk (held (k.content mid)) gate told rest c.open.ensures.any_moment (g.S.Source.left c.args.source.now) c.serve_turns-end.ensures.any_moment

pub returns-in-Ok-clause-acknowledged : goal.returns-in-Ok-clause-acknowledged
returns-in-Ok-clause-acknowledged g c =
    let k = g.D.Disk in
    let old = c.args.disk.now in
    let mid = c.open.new.disk in
    let o = c.in_ok-state.ensures.opened in
    let s = c.in_ok-state.state in
    let gate = c.in_ok-state.gate in
    let told = told-again g.H.Holder.rules g.H.Holder.holds k.content k.may_leave (k.content old) mid s gate o in
    let rest = rest-again g.H.Holder.rules g.H.Holder.holds k.content k.may_leave (k.content old) mid s gate o in
    has-answered g.H.Holder.rules k.content k.may_leave k.moment k.left_since old mid c.serve_turns-end.new.disk (held (k.content mid)) gate told rest c.open.ensures.any_moment (g.S.Source.left c.args.source.now) (g.K.Sink.written c.args.sink.now) (g.K.Sink.written c.serve_turns-end.new.sink) (k.may_leave c.serve_turns-end.new.disk) c.serve_turns-end.ensures.acknowledged

pub returns-in-Ok-clause-talk_too_long : goal.returns-in-Ok-clause-talk_too_long
returns-in-Ok-clause-talk_too_long g c = if-any (g.S.Source.left c.args.source.now) _ (λ talk long. absurd cc)

pub returns-in-Err-clause-ended : goal.returns-in-Err-clause-ended
returns-in-Err-clause-ended g c =
    let k = g.D.Disk in
    let old = c.args.disk.now in
    let mid = c.open.new.disk in
    let o = c.in_ok-state.ensures.opened in
    let s = c.in_ok-state.state in
    let gate = c.in_ok-state.gate in
    let told = told-again g.H.Holder.rules g.H.Holder.holds k.content k.may_leave (k.content old) mid s gate o in
    let rest = rest-again g.H.Holder.rules g.H.Holder.holds k.content k.may_leave (k.content old) mid s gate o in
    ends-cut g.H.Holder.rules k.content k.may_leave k.moment k.left_since old mid c.serve_turns-end.new.disk (held (k.content mid)) gate told rest c.open.ensures.any_moment (g.S.Source.left c.args.source.now) (g.S.Source.left c.serve_turns-end.new.source) (g.K.Sink.written c.args.sink.now) (g.K.Sink.written c.serve_turns-end.new.sink) c.in-Err.why c.in-Err.ensures.ended

pub returns-in-Err-clause-begun : goal.returns-in-Err-clause-begun
returns-in-Err-clause-begun g c =
    let k = g.D.Disk in
    let old = c.args.disk.now in
    let mid = c.open.new.disk in
    let o = c.in_ok-state.ensures.opened in
    let s = c.in_ok-state.state in
    let gate = c.in_ok-state.gate in
    let told = told-again g.H.Holder.rules g.H.Holder.holds k.content k.may_leave (k.content old) mid s gate o in
    let rest = rest-again g.H.Holder.rules g.H.Holder.holds k.content k.may_leave (k.content old) mid s gate o in
    says-some g.H.Holder.rules k.content k.may_leave k.moment k.left_since old mid c.serve_turns-end.new.disk (held (k.content mid)) gate told rest c.open.ensures.any_moment (g.S.Source.left c.args.source.now) (g.K.Sink.written c.args.sink.now) (g.K.Sink.written c.serve_turns-end.new.sink) c.in-Err.ensures.begun

pub returns-in-Err-clause-any_moment : goal.returns-in-Err-clause-any_moment
returns-in-Err-clause-any_moment g c =
    let k = g.D.Disk in
    let old = c.args.disk.now in
    let mid = c.open.new.disk in
    let o = c.in_ok-state.ensures.opened in
    let s = c.in_ok-state.state in
    let gate = c.in_ok-state.gate in
    let told = told-again g.H.Holder.rules g.H.Holder.holds k.content k.may_leave (k.content old) mid s gate o in
    let rest = rest-again g.H.Holder.rules g.H.Holder.holds k.content k.may_leave (k.content old) mid s gate o in
    talk-moments g.H.Holder.rules k.content k.may_leave k.moment k.left_since old mid c.serve_turns-end.new.disk (held (k.content mid)) gate told rest c.open.ensures.any_moment (g.S.Source.left c.args.source.now) c.serve_turns-end.ensures.any_moment

pub returns-in-Err-clause-none_lost : goal.returns-in-Err-clause-none_lost
returns-in-Err-clause-none_lost g c =
    let k = g.D.Disk in
    let old = c.args.disk.now in
    let mid = c.open.new.disk in
    let o = c.in_ok-state.ensures.opened in
    let s = c.in_ok-state.state in
    let gate = c.in_ok-state.gate in
    let told = told-again g.H.Holder.rules g.H.Holder.holds k.content k.may_leave (k.content old) mid s gate o in
    let rest = rest-again g.H.Holder.rules g.H.Holder.holds k.content k.may_leave (k.content old) mid s gate o in
    has-any-answered g.H.Holder.rules k.content k.may_leave k.moment k.left_since old mid c.serve_turns-end.new.disk (held (k.content mid)) gate told rest c.open.ensures.any_moment (g.S.Source.left c.args.source.now) (g.K.Sink.written c.args.sink.now) (g.K.Sink.written c.serve_turns-end.new.sink) (k.may_leave c.serve_turns-end.new.disk) c.serve_turns-end.ensures.acknowledged

pub returns-in-Err-clause-talk_too_long : goal.returns-in-Err-clause-talk_too_long
returns-in-Err-clause-talk_too_long g c =
    if-some (g.S.Source.left c.args.source.now) _ _ (λ talk tells long. let same : c.in-Err.why ≡ cut.TooLong = cc in tells (ap (λ w. Err w) same)) c.in-Err.ensures.too_long

pub returns-in-Err-clause-source_failed : goal.returns-in-Err-clause-source_failed
returns-in-Err-clause-source_failed g c =
    λ failed. let same : c.in-Err.why ≡ cut.Unread = cc in c.in-Err.ensures.source_failed (ap (λ w. Err w) same)

pub returns-in-Err-clause-sink_failed : goal.returns-in-Err-clause-sink_failed
returns-in-Err-clause-sink_failed g c =
    λ failed. let same : c.in-Err.why ≡ cut.Unwritten = cc in c.in-Err.ensures.sink_failed (ap (λ w. Err w) same)

pub returns-in-Err-clause-disk_failed : goal.returns-in-Err-clause-disk_failed
returns-in-Err-clause-disk_failed g c =
    let k = g.D.Disk in
    λ failed. subst (λ n. Rose n (k.faults c.serve_turns-end.new.disk)) c.in_ok-state.ensures.no_fault (c.in-Err.ensures.disk_failed (ap (λ w. Err w) (disk-cut c.in-Err.why failed)))

pub serve_turns-end-requires : goal.serve_turns-end-requires
serve_turns-end-requires g c κs outlive =
    let k = g.D.Disk in
    let old = c.args.disk.now in
    let mid = c.open.new.disk in
    let o = c.in_ok-state.ensures.opened in
    let s = c.in_ok-state.state in
    let gate = c.in_ok-state.gate in
    let server = c.new-server.result in
    let made = c.new-server.ensures in
    let serves = serves-first g.H.Holder.rules g.H.Holder.holds k.content k.may_leave (k.content old) mid s gate o server.state server.item server.is_first made.state made.item made.first in
    let rest = rest-again g.H.Holder.rules g.H.Holder.holds k.content k.may_leave (k.content old) mid s gate o in
    let within = outlive.1.1.1 in
    (outlive.0, (outlive.1.0, (outlive.1.1.0, (search rules, (serves, (rest, o.short))))))

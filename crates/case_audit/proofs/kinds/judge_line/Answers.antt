use Rattle.case_audit.proofs.Common.{◌∙◌, ◌≡◌, arith, asked_of, kind-light, kinds, kinds-readable, left_of, line-judged, LineJudged, None, one_taken, queues_of, rules, Some, subst, sym, without-call, without-event}
use Rattle.case_audit.proofs.Exits.{on-good, shown-modest, shows-in}
use Rattle.case_audit.proofs.kinds.judge_line.Goals as goal

pub returns-in_default-clause-judged : goal.returns-in_default-clause-judged
returns-in_default-clause-judged c = λ phase some turns.
    let f = c.args.file.now in
    let next = shows-in f (queues_of c.args.turns.now) c.shown.result None c.next_place-place.result c.args.kind.now.journal c.as_slice.result.now c.rest.result.now (left_of c.args.report.now) c.shown.ensures.next c.next_place-place.ensures c.as_slice.ensures c.rest.ensures c.in_default.is in
    without-call (kinds f) c.requires.file.auditable (kinds-readable f c.requires.file.workable c.requires.file.auditable) c.args.kind.now c.args.report.now (queues_of c.args.turns.now) phase some turns next

pub returns-in-None-clause-judged : goal.returns-in-None-clause-judged
returns-in-None-clause-judged c = λ phase some turns.
    let f = c.args.file.now in
    let is : c.shown.result ≡ Some (c.in-Some.caller, c.in-Some.call) = search rules in
    let next = shows-in f (queues_of c.args.turns.now) c.shown.result (Some (c.in-Some.caller, c.in-Some.call)) c.next_place-place.result c.args.kind.now.journal c.as_slice.result.now c.rest.result.now (left_of c.args.report.now) c.shown.ensures.next c.next_place-place.ensures c.as_slice.ensures c.rest.ensures is in
    without-event (kinds f) c.requires.file.auditable (kinds-readable f c.requires.file.workable c.requires.file.auditable) c.args.kind.now c.args.report.now (queues_of c.args.turns.now) phase c.in-Some.caller (asked_of c.in-Some.call) some turns next (sym c.in_ok-event_of.ensures ∙ c.in-None.is)

pub judge_call-requires : goal.judge_call-requires
judge_call-requires c =
    let f = c.args.file.now in
    let is : c.shown.result ≡ Some (c.in-Some.caller, c.in-Some.call) = search rules in
    let next = shows-in f (queues_of c.args.turns.now) c.shown.result (Some (c.in-Some.caller, c.in-Some.call)) c.next_place-place.result c.args.kind.now.journal c.as_slice.result.now c.rest.result.now (left_of c.args.report.now) c.shown.ensures.next c.next_place-place.ensures c.as_slice.ensures c.rest.ensures is in
    let modest = shown-modest (queues_of c.args.turns.now) _ c.in-Some.caller (asked_of c.in-Some.call) next c.requires.modest in
    let light = kind-light c.in-Some.call.line.now c.in-Some-2.event modest (sym c.in_ok-event_of.ensures ∙ c.in-Some-2.is) in
    omega (arith, light)

pub returns-in-Some-2-clause-judged : goal.returns-in-Some-2-clause-judged
returns-in-Some-2-clause-judged c = λ phase some turns.
    let f = c.args.file.now in
    let is : c.shown.result ≡ Some (c.in-Some.caller, c.in-Some.call) = search rules in
    let next = shows-in f (queues_of c.args.turns.now) c.shown.result (Some (c.in-Some.caller, c.in-Some.call)) c.next_place-place.result c.args.kind.now.journal c.as_slice.result.now c.rest.result.now (left_of c.args.report.now) c.shown.ensures.next c.next_place-place.ensures c.as_slice.ensures c.rest.ensures is in
    let event = sym c.in_ok-event_of.ensures ∙ c.in-Some-2.is in
    let others : queues_of c.shown.new.self ≡ one_taken c.in-Some.caller (queues_of c.args.turns.now) = search rules in
    on-good c.judge_call.result (λ stands machine journal line. subst (λ qs. LineJudged (kinds f) c.args.kind.now c.args.report.now c.judge_call.new.kind c.judge_call.new.report qs phase stands) (sym others)
    (line-judged (kinds f) c.requires.file.auditable (kinds-readable f c.requires.file.workable c.requires.file.auditable) c.args.kind.now c.judge_call.new.kind c.args.report.now c.judge_call.new.report (queues_of c.args.turns.now) phase c.in-Some.caller (asked_of c.in-Some.call) c.in-Some-2.event stands tt tt next turns event machine journal line))
    c.judge_call.ensures.machine c.judge_call.ensures.journal c.judge_call.ensures.line

use Rattle.case_audit.proofs.Common.{◌∙◌, ◌≡◌, ap, arith, asked_of, case-light, case_reply, cases, cases-readable, entry, left_of, line-judged, line-writes, LineJudged, None, one_taken, queues_of, rules, Some, steady-on, subst, sym}
use Rattle.case_audit.proofs.{Common.{without-call, without-event}, Exits.{on-both, on-good, shown-modest, shows-in}}
use Rattle.script_run.specs.CaseEnds.{CaseEnd}
use Rattle.case_audit.proofs.cases.judge_line.Goals as goal

pub returns-in_default-clause-judged : goal.returns-in_default-clause-judged
returns-in_default-clause-judged c = λ phase some turns.
    let f = c.args.file.now in
    let next = shows-in f (queues_of c.args.turns.now) c.shown.result None c.next_place-place.result c.args.case.now.journal c.as_slice.result.now c.rest.result.now (left_of c.args.report.now) c.shown.ensures.next c.next_place-place.ensures (c.as_slice.ensures ∙ ap (λ (k : CaseEnd). k.journal) c.case.view_is) c.rest.ensures c.in_default.is in
    without-call (cases f) c.requires.file.auditable (cases-readable f c.requires.file.workable c.requires.file.auditable) c.args.case.now c.args.report.now (queues_of c.args.turns.now) phase some turns next

pub returns-in-None-clause-judged : goal.returns-in-None-clause-judged
returns-in-None-clause-judged c = λ phase some turns.
    let f = c.args.file.now in
    let is : c.shown.result ≡ Some (c.in-Some.caller, c.in-Some.call) = search rules in
    let next = shows-in f (queues_of c.args.turns.now) c.shown.result (Some (c.in-Some.caller, c.in-Some.call)) c.next_place-place.result c.args.case.now.journal c.as_slice.result.now c.rest.result.now (left_of c.args.report.now) c.shown.ensures.next c.next_place-place.ensures (c.as_slice.ensures ∙ ap (λ (k : CaseEnd). k.journal) c.case.view_is) c.rest.ensures is in
    without-event (cases f) c.requires.file.auditable (cases-readable f c.requires.file.workable c.requires.file.auditable) c.args.case.now c.args.report.now (queues_of c.args.turns.now) phase c.in-Some.caller (asked_of c.in-Some.call) some turns next (sym c.in_ok-event_of.ensures ∙ c.in-None.is)

pub judge_call-requires : goal.judge_call-requires
judge_call-requires c =
    let f = c.args.file.now in
    let is : c.shown.result ≡ Some (c.in-Some.caller, c.in-Some.call) = search rules in
    let next = shows-in f (queues_of c.args.turns.now) c.shown.result (Some (c.in-Some.caller, c.in-Some.call)) c.next_place-place.result c.args.case.now.journal c.as_slice.result.now c.rest.result.now (left_of c.args.report.now) c.shown.ensures.next c.next_place-place.ensures (c.as_slice.ensures ∙ ap (λ (k : CaseEnd). k.journal) c.case.view_is) c.rest.ensures is in
    let modest = shown-modest (queues_of c.args.turns.now) _ c.in-Some.caller (asked_of c.in-Some.call) next c.requires.modest in
    let light = case-light f (asked_of c.in-Some.call) c.in-Some-2.event modest (sym c.in_ok-event_of.ensures ∙ c.in-Some-2.is) in
    omega (arith, light, c.requires.steady.1, c.requires.few)

pub returns-in-Some-2-clause-judged : goal.returns-in-Some-2-clause-judged
returns-in-Some-2-clause-judged c = λ phase some turns.
    let f = c.args.file.now in
    let is : c.shown.result ≡ Some (c.in-Some.caller, c.in-Some.call) = search rules in
    let next = shows-in f (queues_of c.args.turns.now) c.shown.result (Some (c.in-Some.caller, c.in-Some.call)) c.next_place-place.result c.args.case.now.journal c.as_slice.result.now c.rest.result.now (left_of c.args.report.now) c.shown.ensures.next c.next_place-place.ensures (c.as_slice.ensures ∙ ap (λ (k : CaseEnd). k.journal) c.case.view_is) c.rest.ensures is in
    let event = sym c.in_ok-event_of.ensures ∙ c.in-Some-2.is in
    let writes = line-writes f (asked_of c.in-Some.call) c.in-Some-2.event (shown-modest (queues_of c.args.turns.now) _ c.in-Some.caller (asked_of c.in-Some.call) next c.requires.modest).0 event in
    let others : queues_of c.shown.new.self ≡ one_taken c.in-Some.caller (queues_of c.args.turns.now) = search rules in
    on-good c.judge_call.result (λ stands machine journal line. subst (λ qs. LineJudged (cases f) c.args.case.now c.args.report.now c.judge_call.new.case c.judge_call.new.report qs phase stands) (sym others)
    (line-judged (cases f) c.requires.file.auditable (cases-readable f c.requires.file.workable c.requires.file.auditable) c.args.case.now c.judge_call.new.case c.args.report.now c.judge_call.new.report (queues_of c.args.turns.now) phase c.in-Some.caller (asked_of c.in-Some.call) c.in-Some-2.event stands c.requires.steady.0 writes next turns event machine journal line))
    c.judge_call.ensures.machine c.judge_call.ensures.journal c.judge_call.ensures.line

pub returns-in-Some-2-clause-steady : goal.returns-in-Some-2-clause-steady
returns-in-Some-2-clause-steady c =
    let f = c.args.file.now in
    let e = c.in-Some-2.event in
    let is : c.shown.result ≡ Some (c.in-Some.caller, c.in-Some.call) = search rules in
    let next = shows-in f (queues_of c.args.turns.now) c.shown.result (Some (c.in-Some.caller, c.in-Some.call)) c.next_place-place.result c.args.case.now.journal c.as_slice.result.now c.rest.result.now (left_of c.args.report.now) c.shown.ensures.next c.next_place-place.ensures (c.as_slice.ensures ∙ ap (λ (k : CaseEnd). k.journal) c.case.view_is) c.rest.ensures is in
    let modest = shown-modest (queues_of c.args.turns.now) _ c.in-Some.caller (asked_of c.in-Some.call) next c.requires.modest in
    let event = sym c.in_ok-event_of.ensures ∙ c.in-Some-2.is in
    on-both c.judge_call.result (λ machine journal. steady-on c.args.case.now c.judge_call.new.case e (entry c.in-Some.caller e (case_reply c.args.case.now.machine e)) c.requires.steady (line-writes f (asked_of c.in-Some.call) e modest.0 event) (case-light f (asked_of c.in-Some.call) e modest event) machine journal)
    c.judge_call.ensures.machine c.judge_call.ensures.journal

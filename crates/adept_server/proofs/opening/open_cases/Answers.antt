use Rattle.adept_server.proofs.{Common.{◌+◌, ◌∙◌, ◌≡◌, ◌≤◌, ap, AreFirstCases, AreOpened, arith, CountedCase, crosses, IfOk-weaker, length, length_push, MAX_OPENING_AGE, not_created, uncounted, views}, Founding.{cases_opened, made_all}}
use Rattle.adept_server.proofs.{Founding.{none_made, one_made}, Sent.{case-send, case-sync, event-send, event-sync}}
use Rattle.case_core.specs.Ages.{age}
use denote.Param.Send.{sendable}
use Rattle.adept_server.proofs.opening.open_cases.Goals as goal

pub loop-place-init : goal.loop-place-init
loop-place-init c = record {
  many = ap length c.in_ok-cases.ensures.items;
  made = none_made (λ i. uncounted (not_created c.args.type_no)) c.in_ok-cases.cases.items c.in_ok-cases.ensures.items;
  room = omega (arith, c.in_ok-cases.ensures.len, c.in_ok-cases.ensures.exact);
}

pub loop-place-preserved : goal.loop-place-preserved
loop-place-preserved c =
    let l = c.loop-place in
    let push = c.push_reserved.ensures in
    record {
      many = ap length push.items ∙ (length_push l.cases.items c.new.result ∙ ap (λ n. n + 1) l.invariant.many);
      made = one_made (λ i. uncounted (not_created c.args.type_no)) l.cases.items c.push_reserved.new.self.items l._place c.new.result l.invariant.many push.items c.new.ensures.case l.invariant.made;
      room = omega (arith, l.invariant.room, push.len, push.capacity);
    }

pub returns : goal.returns
returns c =
    let l = c.loop-place in
    let done : l._place ≡ c.args.count = omega arith in
    record {
      cells = c.open_row.ensures.cells;
      firsts =
          IfOk-weaker c.open_row.result (λ r. AreOpened (λ (k : CountedCase). k.state) l.cases.items r.0.items r.1.items) (λ r. AreFirstCases c.args.type_no c.args.count (views r.1.items))
          (λ r k. cases_opened c.args.type_no c.args.count l.cases.items r.0.items r.1.items (l.invariant.many ∙ done) l.invariant.made k) c.open_row.ensures.opened;
    }

pub open_row-requires-send-M : goal.open_row-requires-send-M
open_row-requires-send-M c κs = search (case-send, sendable, crosses) depth 30

pub open_row-requires-send-M-Event : goal.open_row-requires-send-M-Event
open_row-requires-send-M-Event c κs = search (event-send, sendable, crosses) depth 30

pub open_row-requires-sync-M : goal.open_row-requires-sync-M
open_row-requires-sync-M c κs = search (case-sync, sendable, crosses) depth 30

pub open_row-requires-sync-M-Event : goal.open_row-requires-sync-M-Event
open_row-requires-sync-M-Event c κs = search (event-sync, sendable, crosses) depth 30

pub open_row-requires-clause-young : goal.open_row-requires-clause-young
open_row-requires-clause-young c κs = made_all (λ i. uncounted (not_created c.args.type_no)) (λ (m : CountedCase). age m.state ≤ MAX_OPENING_AGE) c.loop-place.cases.items c.loop-place.invariant.made (λ i. omega arith)

use Rattle.adept_server.proofs.{Common.{◌+◌, ◌∙◌, ◌≡◌, ap, AreFirstKinds, AreOpened, arith, crosses, IfOk-weaker, length, length_push, not_defined, views}, Founding.{kinds_opened, none_made, one_made}, Sent.{version-send, version-sync}}
use denote.Param.Send.{sendable}
use Rattle.adept_server.proofs.opening.open_kinds.Goals as goal

pub loop-type_no-init : goal.loop-type_no-init
loop-type_no-init c = record {
  many = ap length c.in_ok-kinds.ensures.items;
  made = none_made not_defined c.in_ok-kinds.kinds.items c.in_ok-kinds.ensures.items;
  room = omega (arith, c.in_ok-kinds.ensures.len, c.in_ok-kinds.ensures.exact);
}

pub loop-type_no-preserved : goal.loop-type_no-preserved
loop-type_no-preserved c =
    let l = c.loop-type_no in
    let push = c.push_reserved.ensures in
    record {
      many = ap length push.items ∙ (length_push l.kinds.items c.new.result ∙ ap (λ n. n + 1) l.invariant.many);
      made = one_made not_defined l.kinds.items c.push_reserved.new.self.items l.type_no c.new.result l.invariant.many push.items c.new.ensures l.invariant.made;
      room = omega (arith, l.invariant.room, push.len, push.capacity);
    }

pub returns : goal.returns
returns c =
    let l = c.loop-type_no in
    let done : l.type_no ≡ c.args.count = omega arith in
    record {
      cells = c.open_row.ensures.cells;
      firsts =
          IfOk-weaker c.open_row.result (λ r. AreOpened (λ k. k) l.kinds.items r.0.items r.1.items) (λ r. AreFirstKinds c.args.count (views r.1.items))
          (λ r k. kinds_opened c.args.count l.kinds.items r.0.items r.1.items (l.invariant.many ∙ done) l.invariant.made k) c.open_row.ensures.opened;
    }

pub open_row-requires-send-M : goal.open_row-requires-send-M
open_row-requires-send-M c κs = search (version-send, version-sync, sendable, crosses) depth 30

pub open_row-requires-send-M-Reply : goal.open_row-requires-send-M-Reply
open_row-requires-send-M-Reply c κs = search (version-send, version-sync, sendable, crosses) depth 30

pub open_row-requires-sync-M : goal.open_row-requires-sync-M
open_row-requires-sync-M c κs = search (version-send, version-sync, sendable, crosses) depth 30

pub open_row-requires-sync-M-Reply : goal.open_row-requires-sync-M-Reply
open_row-requires-sync-M-Reply c κs = search (version-send, version-sync, sendable, crosses) depth 30

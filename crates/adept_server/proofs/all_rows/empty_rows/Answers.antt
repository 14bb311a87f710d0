use Rattle.adept_server.proofs.{Common.{◌+◌, ◌<◌, ◌∙◌, arith, HaveRoomFor, length, subst, sym, take}, RowsClosed.{no_room_needed, one_more_room, room_for_all}}
use Rattle.adept_server.proofs.all_rows.empty_rows.Goals as goal

pub loop-row-init : goal.loop-row-init
loop-row-init g c = record {
  room = no_room_needed c.in_ok-empty.empty.items c.in_ok-empty.ensures.items;
  left = omega (arith, c.in_ok-empty.ensures.len, c.in_ok-empty.ensures.exact);
}

pub loop-row-preserved : goal.loop-row-preserved
loop-row-preserved g c =
    let l = c.loop-row in
    let new = c.in_ok-with_capacity.field-0 in
    let lt : l.row-index < length c.args.rows.now = c.loop-row-test.true in
    let room = one_more_room c.args.rows.now l.row-index c.row-item.result l.empty.items new lt c.row-item.is l.invariant.room (c.in_ok-with_capacity.ensures.exact ∙ c.len.ensures) c.in_ok-with_capacity.ensures.len in
    record {
      room = subst (HaveRoomFor (take (l.row-index + 1) c.args.rows.now)) (sym c.push_reserved.ensures.items) room;
      left = omega (arith, l.invariant.left, c.push_reserved.ensures.len, c.push_reserved.ensures.capacity);
    }

pub returns : goal.returns
returns g c = room_for_all c.args.rows.now c.loop-row.row-index c.loop-row.empty.items (omega arith) c.loop-row.invariant.room

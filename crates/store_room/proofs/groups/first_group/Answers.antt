use Rattle.std.proofs.{Common.{◌≡◌, inl, inr, ◌+◌, Err, ap, length, arith}, lemmas.Result.err_from_is_err_and}
use Rattle.store_disk.specs.Image.{all_framed}
use Rattle.store_room.specs.declared.faults.RoomFault.TheVariants as fault
use Rattle.store_room.proofs.{Grouped.{group-are, group-fits, group-over, group-payable, group-payloads, group-span}, groups.first_group.Goals.else-count-gt0-via-then-count-gt0+else-span-len-gt-MAX_GROUP}
use Rattle.store_room.proofs.groups.first_group.Goals.{else-count-gt0-via-else-count-gt0}
use Rattle.store_room.proofs.groups.first_group.Goals as goal

pub returns-in_err-bytes-clause-full : goal.returns-in_err-bytes-clause-full
returns-in_err-bytes-clause-full c =
    let l = c.loop-count in
    let told = err_from_is_err_and c.from_residual-in_err-bytes.result c.from_residual-in_err-bytes.ensures.1 in
    λ full.
    let same : c.in_err-bytes.field-0.0 ≡ fault.Full = cc (full, told.1, told.2) in
    group-over c.args.limit c.args.gate c.span-span.result l.count c.args.calls.now l.group c.index-calls-count.result l.invariant.are c.span-span.ensures.length c.loop-count-test.true c.index-calls-count.is
    (c.in_err-bytes.ensures.full (ap Err same))

pub loop-count-preserved : goal.loop-count-preserved
loop-count-preserved c =
    let l = c.loop-count in
    let limit = c.args.limit in
    let gate = c.args.gate in
    let span = c.span-span.result in
    let calls = c.args.calls.now in
    let r = c.index-calls-count.result in
    let stands = c.span-span.ensures.length in
    let low = c.loop-count-test.true in
    let item = c.index-calls-count.is in
    let found = c.in_ok-bytes.ensures in
    let new = c.push.new.self in
    let p = c.in_ok-bytes.bytes in
    let q = c.as_slice.result.now in
    let longer : length (all_framed new) ≡ span + (5 + length p) = group-span limit gate span l.count calls l.group r l.invariant.are stands low item new p q c.as_slice.ensures c.in_ok-push.ensures.pushed in
    record {
      are = group-are limit gate span l.count calls l.group r l.invariant.are stands low item new p q found.payload.0.same c.as_slice.ensures c.in_ok-push.ensures.pushed;
      short = omega (arith, longer, found.payload.1, c.requires.limit);
      fits = group-fits limit gate span l.count calls l.group r l.invariant.are stands low item l.invariant.fits found.fits;
      cut = elim c.else-count-gt0.branch [
        | else-count-gt0-via-then-count-gt0+else-span-len-gt-MAX_GROUP w ↦ inr (omega (arith, w.if-span-len-gt-MAX_GROUP.false, w.len.ensures, longer))
        | else-count-gt0-via-else-count-gt0 w ↦ inl (omega (arith, w.if-count-gt0.false))
      ];
      payable = group-payable limit gate span l.count calls l.group r l.invariant.are stands low item l.invariant.payable;
      payloads = group-payloads limit gate span l.count calls l.group r l.invariant.are stands low item p found.payload.0 l.invariant.payloads;
    }

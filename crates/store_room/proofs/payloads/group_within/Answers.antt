use Rattle.std.proofs.{Common.{◌≡◌, ◌+◌, Err, ap, length, arith}, lemmas.Result.err_from_is_err_and}
use Rattle.store_disk.specs.Image.{all_framed}
use Rattle.store_room.specs.declared.faults.RoomFault.TheVariants as fault
use Rattle.store_room.proofs.Grouped.{group-are, group-fits, group-over, group-payable, group-payloads, group-span}
use Rattle.store_room.proofs.payloads.group_within.Goals as goal

pub returns-in_err-bytes-clause-full : goal.returns-in_err-bytes-clause-full
returns-in_err-bytes-clause-full c =
    let l = c.loop-call in
    let told = err_from_is_err_and c.from_residual-in_err-bytes.result c.from_residual-in_err-bytes.ensures.1 in
    λ full.
    let same : c.in_err-bytes.field-0.0 ≡ fault.Full = cc (full, told.1, told.2) in
    group-over c.args.limit c.args.gate c.span.result l.call-index c.args.calls.now l.group c.call-item.result l.invariant.are c.span.ensures.length c.loop-call-test.true c.call-item.is
    (c.in_err-bytes.ensures.full (ap Err same))

pub loop-call-preserved : goal.loop-call-preserved
loop-call-preserved c =
    let l = c.loop-call in
    let limit = c.args.limit in
    let gate = c.args.gate in
    let span = c.span.result in
    let calls = c.args.calls.now in
    let r = c.call-item.result in
    let stands = c.span.ensures.length in
    let low = c.loop-call-test.true in
    let item = c.call-item.is in
    let found = c.in_ok-bytes.ensures in
    let new = c.push.new.self in
    let p = c.in_ok-bytes.bytes in
    let q = c.as_slice.result.now in
    let longer : length (all_framed new) ≡ span + (5 + length p) = group-span limit gate span l.call-index calls l.group r l.invariant.are stands low item new p q c.as_slice.ensures c.in_ok-push.ensures.pushed in
    record {
      are = group-are limit gate span l.call-index calls l.group r l.invariant.are stands low item new p q found.payload.0.same c.as_slice.ensures c.in_ok-push.ensures.pushed;
      short = omega (arith, longer, found.payload.1, c.requires.limit);
      fits = group-fits limit gate span l.call-index calls l.group r l.invariant.are stands low item l.invariant.fits found.fits;
      payable = group-payable limit gate span l.call-index calls l.group r l.invariant.are stands low item l.invariant.payable;
      payloads = group-payloads limit gate span l.call-index calls l.group r l.invariant.are stands low item p found.payload.0 l.invariant.payloads;
    }

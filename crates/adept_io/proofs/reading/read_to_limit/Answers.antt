use Rattle.std.proofs.Common.{◌+◌, arith}
use Rattle.adept_io.proofs.Taken.{ConsumesMany-then, ConsumesUpTo-then}
use Rattle.adept_io.proofs.reading.read_to_limit.Goals as goal

pub returns-then-count-room-clause-too_long : goal.returns-then-count-room-clause-too_long
returns-then-count-room-clause-too_long g c = λ _.
    ConsumesMany-then (g.S.Source.left c.args.source.now) (g.S.Source.left c.loop-bytes.source) (g.S.Source.left c.read.new.self) c.loop-bytes.bytes.items c.read.new.buf c.in_ok-count.count (c.args.limit + 1)
    c.loop-bytes.invariant.consumes c.in_ok-count.ensures.bytes.0 c.in_ok-count.ensures.bound.0 (omega (arith, c.read.auto.buf, c.in_ok-count.ensures.bound.0, c.split_at_mut-buf.ensures.front_len, c.min.ensures))

pub returns-in_err-extend_from_slice-clause-no_memory : goal.returns-in_err-extend_from_slice-clause-no_memory
returns-in_err-extend_from_slice-clause-no_memory g c = λ _.
    ConsumesUpTo-then (g.S.Source.left c.args.source.now) (g.S.Source.left c.loop-bytes.source) (g.S.Source.left c.read.new.self) c.loop-bytes.bytes.items c.read.new.buf c.in_ok-count.count c.args.limit
    c.loop-bytes.invariant.consumes c.in_ok-count.ensures.bytes.0 c.in_ok-count.ensures.bound.0 (omega (arith, c.read.auto.buf, c.in_ok-count.ensures.bound.0, c.split_at_mut-buf.ensures.front_len, c.min.ensures))

use Rattle.wsm_settle.proofs.{Common.arith, Flagged.resized}
use Rattle.wsm_settle.proofs.flags.hold_flag.Goals as goal

pub returns-in-Some-clause-same : goal.returns-in-Some-clause-same
returns-in-Some-clause-same c =
    resized c.args.flags.now.items c.resize.new.self.items _ c.in-Some.len _ (omega (arith, c.if-place-len.false, c.len.ensures, c.in-Some.ensures.1, c.args.flags.now.ok.0)) c.resize.ensures.items

use Rattle.adept_io.proofs.{Sent.AppendsPrefix-take, Taken.OnErr-from}
use Rattle.adept_io.proofs.writing.write_all.Goals as goal

pub returns-clause-part : goal.returns-clause-part
returns-clause-part g c = OnErr-from _ _ (AppendsPrefix-take _ _ c.write_most-answer.result.0 c.args.bytes.now c.write_most-answer.ensures.bytes)

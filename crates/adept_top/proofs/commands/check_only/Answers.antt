use Rattle.adept_top.proofs.Endings.{unworked_ends}
use Rattle.adept_top.proofs.commands.check_only.Goals as goal
use Rattle.adept_top.specs.declared.words.Command.TheVariants as command

pub returns-in-Err : goal.returns-in-Err
returns-in-Err g c = unworked_ends g.S.Source.left g.S.Source.faults g.K.Sink.written g.K.Sink.faults command.Check c.args.source.now c.read_process.new.source c.args.sink.now c.in-Err.end c.in-Err.ensures.err

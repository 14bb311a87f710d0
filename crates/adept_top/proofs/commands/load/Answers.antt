use Rattle.adept_top.proofs.Endings.{unworked_ends, worked_ends}
use Rattle.adept_top.proofs.commands.load.Goals as goal
use Rattle.adept_top.specs.declared.words.Command.TheVariants as command

pub returns-in-Err : goal.returns-in-Err
returns-in-Err g c = unworked_ends g.S.Source.left g.S.Source.faults g.K.Sink.written g.K.Sink.faults (command.Load c.args.cases) c.args.source.now c.made_process.new.source c.args.sink.now c.in-Err.end c.in-Err.ensures.err

pub returns-in-Ok : goal.returns-in-Ok
returns-in-Ok g c = worked_ends g.S.Source.left g.S.Source.faults g.K.Sink.written g.K.Sink.faults (command.Load c.args.cases) c.args.source.now c.made_process.new.source c.in-Ok.file c.args.sink.now c.summarize_file.new.sink c.summarize_file.result c.in-Ok.ensures.input (c.summarize_file.ensures c.args.cases)

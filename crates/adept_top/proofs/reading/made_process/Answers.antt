use Rattle.std.proofs.Common.{◌∙◌}
use Rattle.adept_top.proofs.Got.{few_made, made-input}
use Rattle.adept_top.proofs.reading.made_process.Goals as goal

-- src/reading.rt:29:1
pub returns-in-Ok-clause-input : goal.returns-in-Ok-clause-input
returns-in-Ok-clause-input g c = made-input g.S.Source.left g.S.Source.faults c.args.cases c.args.source.now c.as_slice.result.now c.file_of.result (c.as_slice.ensures ∙ c.in-Ok.ensures.text) (few_made c.as_slice.result.now c.in-Ok.bytes c.as_slice.ensures c.in-Ok.ensures.size) c.file_of.ensures.file

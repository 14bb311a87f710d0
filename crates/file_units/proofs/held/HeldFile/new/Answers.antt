use Rattle.file_units.proofs.{Common.{ap, Contents}, Mirror.nothing-front}
use Rattle.file_units.proofs.held.HeldFile.new.Goals as goal

pub bring_up-requires-clause-front : goal.bring_up-requires-clause-front
bring_up-requires-clause-front c = nothing-front c.no_file-file.result _ c.no_file-file.ensures (ap (λ (d : Contents). d.format) c.nothing-contents.ensures)

use Rattle.process_text.proofs.Common.{◌∙◌, ap, Ok, sym}
use Rattle.file_model.proofs.Bounds.{file-bounded}
use Rattle.process_text.proofs.reading.read_file_up_to.Goals as goal

pub returns-in_ok-file-in-Ok-clause-bounded : goal.returns-in_ok-file-in-Ok-clause-bounded
returns-in_ok-file-in-Ok-clause-bounded c = file-bounded c.args.newest c.args.bytes.now c.in_ok-file-in-Ok.file (c.in-Ok.ensures.ok ∙ ap Ok (sym c.in_ok-file-in-Ok.ensures.same))

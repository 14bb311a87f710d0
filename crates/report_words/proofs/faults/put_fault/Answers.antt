use Rattle.adept_io.proofs.Sent.{gives_then}
use Rattle.fault_words.proofs.InOrder.{in_order}
use Rattle.report_words.proofs.Rows.{gives_as}
use Rattle.report_words.proofs.faults.put_fault.Goals as goal

pub returns : goal.returns
returns g c =
    gives_as _ _ _ _ _ _ _ _
    (gives_then _ _ _ _ _ _ _ _ _ _ c.put_word-ok.ensures
    (gives_then _ _ _ _ _ _ _ _ _ _ c.put_any-ok.ensures (gives_then _ _ _ _ _ _ _ _ _ _ c.put_any-ok-2.ensures c.put_any.ensures)))
    (in_order c.args.file.now.nodes c.args.file.now.elements c.fault_words-words.result c.args.fault c.fault_words-words.ensures)

use Rattle.adept_io.proofs.Sent.{gives_then}
use Rattle.report_words.proofs.values.put_quoted.Goals as goal

pub returns : goal.returns
returns g c =
    gives_then _ _ _ _ _ _ _ _ _ _ c.put-ok.ensures
    (gives_then _ _ _ _ _ _ _ _ _ _ c.put_escaped-ok.ensures c.put.ensures)

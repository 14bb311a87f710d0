use Rattle.adept_io.proofs.Sent.{gives_then}
use Rattle.report_words.proofs.Escapes.{flat_map-escaped-run}
use Rattle.report_words.proofs.values.put_run.Goals as goal

pub returns : goal.returns
returns g c =
    rw (flat_map-escaped-run c.args.text.now c.args.at c.requires)
    (gives_then _ _ _ _ _ _ _ _ _ _ c.put-ok.ensures c.put.ensures)

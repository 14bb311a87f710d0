use Rattle.report_text.proofs.Common.{◌≡◌, ap, decimal, gives_as, gives_then}
use Rattle.report_text.proofs.checks.put_verdict_head.Goals as goal

pub returns : goal.returns
returns g c =
    let at : c.from.result ≡ c.args.verdict.now.at = cc in
    gives_then _ _ _ _ _ _ _ _ _ _ c.put-ok.ensures
    (gives_then _ _ _ _ _ _ _ _ _ _ (gives_as _ _ _ _ _ _ _ _ c.put_number-ok.ensures (ap decimal at))
    (gives_then _ _ _ _ _ _ _ _ _ _ c.put_type-ok.ensures c.put.ensures))

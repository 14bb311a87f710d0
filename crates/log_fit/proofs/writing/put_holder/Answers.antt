use Rattle.log_fit.proofs.Common.{◌≡◌, ap, decimal, gives_as, gives_then}
use Rattle.log_fit.proofs.writing.put_holder.Goals as goal

pub returns : goal.returns
returns g c =
    let user : c.from.result ≡ c.args.user = cc in
    gives_then _ _ _ _ _ _ _ _ _ _ c.put-ok.ensures (gives_as _ _ _ _ _ _ _ _ c.put_number.ensures (ap decimal user))

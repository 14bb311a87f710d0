use Rattle.log_fit.proofs.Common.{◌≡◌, ap, decimal, gives_as, gives_then, next_text}
use Rattle.std.specs.Option.{option_copied}
use Rattle.log_fit.proofs.writing.put_fit.Goals as goal

pub returns : goal.returns
returns g c =
    let fit = c.args.fit.now in
    let case : c.bytes.result.now ≡ fit.case = cc in
    let events : c.from.result ≡ fit.events = cc in
    let fits : c.from-2.result ≡ fit.fits = cc in
    let next : option_copied c.as_ref.result ≡ fit.next = c.as_ref.ensures.value in
    gives_then _ _ _ _ _ _ _ _ _ _ (gives_as _ _ _ _ _ _ _ _ c.put-ok.ensures case)
    (gives_then _ _ _ _ _ _ _ _ _ _ c.put-ok-2.ensures
    (gives_then _ _ _ _ _ _ _ _ _ _ (gives_as _ _ _ _ _ _ _ _ c.put_number-ok.ensures (ap decimal events))
    (gives_then _ _ _ _ _ _ _ _ _ _ c.put-ok-3.ensures
    (gives_then _ _ _ _ _ _ _ _ _ _ (gives_as _ _ _ _ _ _ _ _ c.put_number-ok-2.ensures (ap decimal fits))
    (gives_then _ _ _ _ _ _ _ _ _ _ c.put-ok-4.ensures
    (gives_then _ _ _ _ _ _ _ _ _ _ (gives_as _ _ _ _ _ _ _ _ c.put_next-ok.ensures (ap (next_text c.args.file.now) next)) c.put.ensures))))))

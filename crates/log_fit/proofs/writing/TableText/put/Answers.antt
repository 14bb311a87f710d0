use Rattle.log_fit.proofs.Common.{◌≡◌, ap, fit_line, flat_map, gives_as, gives_then}
use Rattle.log_fit.proofs.writing.TableText.put.Goals as goal

pub returns : goal.returns
returns g c =
    let fits : c.as_slice.result.now ≡ c.args.self.now.fits.now = cc in
    gives_then _ _ _ _ _ _ _ _ _ _ c.put-ok.ensures (gives_as _ _ _ _ _ _ _ _ c.put_fits.ensures (ap (flat_map (fit_line c.args.self.now.file.now)) fits))

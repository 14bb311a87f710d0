use Rattle.talk_answers.proofs.Common.{◌∙◌, ◌≡◌, ap, decimal, gives_as, gives_then, length, Placed, places_of, versions_of}
use Rattle.type_core.specs.Machine.{newest_of}
use Rattle.talk_answers.proofs.types.put_type_line.Goals as goal

pub returns : goal.returns
returns g c =
    let versions : c.from.result ≡ versions_of (newest_of c.args.kind.now.machine.versions) = cc in
    let places : c.of_kind.result.now ≡ places_of c.args.type_no c.args.run.now.placed.types = c.of_kind.ensures ∙ ap (λ (p : Placed). places_of c.args.type_no p.types) c.places.ensures in
    gives_then _ _ _ _ _ _ _ _ _ _ c.put_type-ok.ensures
    (gives_then _ _ _ _ _ _ _ _ _ _ c.put-ok.ensures
    (gives_then _ _ _ _ _ _ _ _ _ _ (gives_as _ _ _ _ _ _ _ _ c.put_number-ok.ensures (ap decimal versions))
    (gives_then _ _ _ _ _ _ _ _ _ _ c.put-ok-2.ensures
    (gives_then _ _ _ _ _ _ _ _ _ _ (gives_as _ _ _ _ _ _ _ _ c.put_number-ok-2.ensures (ap (λ ps. decimal (length ps)) places)) c.put.ensures))))

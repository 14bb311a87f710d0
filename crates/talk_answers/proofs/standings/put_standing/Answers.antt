use Rattle.talk_answers.proofs.Common.{◌∙◌, ◌≡◌, ap, CaseEnd, gives_as, gives_then, standing_of}
use Rattle.talk_answers.proofs.standings.put_standing.Goals as goal

pub returns : goal.returns
returns g c =
    let live : c.live.result ≡ c.args.case.now.machine.live = c.live.ensures.live ∙ ap (λ (k : CaseEnd). k.machine.live) c.case.view_is in
    gives_then _ _ _ _ _ _ _ _ _ _ c.put-ok.ensures
    (gives_then _ _ _ _ _ _ _ _ _ _ (gives_as _ _ _ _ _ _ _ _ c.put-ok-2.ensures c.bytes.ensures.bytes)
    (gives_then _ _ _ _ _ _ _ _ _ _ c.put_type-ok.ensures (gives_as _ _ _ _ _ _ _ _ c.put_standing_of.ensures (ap standing_of live))))

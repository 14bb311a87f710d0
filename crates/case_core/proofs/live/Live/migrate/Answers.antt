use Rattle.case_core.proofs.Common.{◌∙◌, ◌≡◌, ap, applied, changed_by, Ok, rules, taken_parts}
use Rattle.case_core.proofs.live.Live.migrate.Goals as goal

pub take-requires-clause-own : goal.take-requires-clause-own
take-requires-clause-own g c =
    let l = c.of-case.result in
    let v = c.args.version.now in
    let made : changed_by v.schema l.own ≡ Ok c.in-Ok.schema.value = search rules in
    let both : applied v.schema l.own ≡ Ok c.in-Ok.schema.value = (taken_parts v.schema c.in-Ok.schema.value l.own made).0 in
    let version : c.in_ok-share-in-Ok.field-0 ≡ v = search rules in
    let own : c.in_ok-own-in-Ok.own ≡ l.own = search rules in
    ap (λ w. applied w.schema c.in_ok-own-in-Ok.own) version ∙ ap (applied v.schema) own ∙ both

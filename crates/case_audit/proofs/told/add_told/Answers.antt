use Rattle.case_audit.proofs.{Common.{[], ◌++◌, ◌<◌, ◌∙◌, ◌∷◌, ◌≡◌, ap, arith, deques_of, length, map, map-append, refl, Some, sym, told_by, with_version}, Changes.queue-changed}
use Rattle.case_audit.proofs.told.add_told.Goals as goal

pub returns-in_ok-push_back-in-Some : goal.returns-in_ok-push_back-in-Some
returns-in_ok-push_back-in-Some c =
    let told = c.args.told.now in
    let entry = c.args.entry.now in
    let queue = c.in-Some.versions.now in
    let version = c.in-Newest-Is.version in
    let low : entry.caller < length told.items = omega (arith, c.in-Some.ensures.variant.0 refl, told.ok.0) in
    let longer : map (λ v. v.now) c.push_back.new.self.items ≡ map (λ v. v.now) queue.items ++ version ∷ [] = ap (map (λ v. v.now)) c.in_ok-push_back-in-Some.ensures.items ∙ map-append (λ v. v.now) queue.items _ in
    let is : told_by entry.event entry.reply ≡ Some version = rw (c.in-Newest-Is.is-0, c.in-Newest-Is.is-1) refl in
    queue-changed (λ q. map (λ v. v.now) q.items) (λ q. q ++ version ∷ []) told.items entry.caller queue c.push_back.new.self low c.in-Some.ensures.value longer
    ∙ sym (ap (λ o. with_version entry.caller o (deques_of told.items)) is)

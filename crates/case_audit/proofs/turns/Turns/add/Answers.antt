use Rattle.case_audit.proofs.{Common.{[], ◌++◌, ◌<◌, ◌∙◌, ◌∷◌, ◌≡◌, ap, arith, asked_in, asked_of, length, map-append, refl}, Changes.queue-changed}
use Rattle.case_audit.proofs.turns.Turns.add.Goals as goal

pub returns-in_ok-push_back-in-Some : goal.returns-in_ok-push_back-in-Some
returns-in_ok-push_back-in-Some c =
    let by_actor = c.args.self.now.by_actor in
    let actor = c.args.call.line.now.actor in
    let queue = c.in-Some.calls.now in
    let low : actor < length by_actor.items = omega (arith, c.in-Some.ensures.variant.0 refl, by_actor.ok.0) in
    let longer : asked_in c.push_back.new.self.items ≡ asked_in queue.items ++ asked_of c.args.call ∷ [] = ap asked_in c.in_ok-push_back-in-Some.ensures.items ∙ map-append asked_of queue.items (c.args.call ∷ []) in
    queue-changed (λ q. asked_in q.items) (λ q. q ++ asked_of c.args.call ∷ []) by_actor.items actor queue c.push_back.new.self low c.in-Some.ensures.value longer

use Rattle.case_audit.proofs.{Common.{◌<◌, arith, asked_in, asked_of, behind_front, length, refl}, Changes.queue-changed, Fronts.popped-rest}
use Rattle.case_audit.proofs.turns.Turns.next.Goals as goal

pub returns-clause-others : goal.returns-clause-others
returns-clause-others c =
    let by_actor = c.args.self.now.by_actor in
    let queue = c.in_ok-get_mut.field-0.now in
    let low : c.args.actor < length by_actor.items = omega (arith, c.in_ok-get_mut.ensures.variant.0 refl, by_actor.ok.0) in
    let rest = popped-rest asked_of queue.items c.pop_front.new.self.items c.pop_front.ensures.rest in
    queue-changed (λ q. asked_in q.items) behind_front by_actor.items c.args.actor queue c.pop_front.new.self low c.in_ok-get_mut.ensures.value rest

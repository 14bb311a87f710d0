use Rattle.case_audit.proofs.{Common.{◌<◌, ◌∙◌, ◌≡◌, ◌≤◌, ap, arith, behind_front, deques_of, front_of, left_in, length, length-map, map, next_version, one_taken, queue_of, refl, sym, told_versions}, Changes.{none-taken, queue-at}}
use Rattle.case_audit.proofs.{Changes.queue-changed, Fronts.{popped-front, popped-rest}}
use Rattle.case_audit.proofs.told.Told.next.Goals as goal

pub returns-in_err-get_mut-clause-left : goal.returns-in_err-get_mut-clause-left
returns-in_err-get_mut-clause-left c =
    let t = c.in_ok-type_no.field-0 in
    let told = c.args.self.now.versions.items in
    let row = c.in_ok-by_actor.by_actor.now in
    let low : t < length told = omega (arith, c.in_ok-by_actor.ensures.variant.0 refl, c.args.self.now.versions.ok.0) in
    let past : length row.items ≤ c.args.actor = omega (arith, c.in_err-get_mut.ensures.item.3) in
    let same : deques_of row.items ≡ one_taken c.args.actor (deques_of row.items) = sym (none-taken (deques_of row.items) c.args.actor (omega (arith, past, length-map row.items (λ q. map (λ v. v.now) q.items)))) in
    queue-changed (λ v. deques_of v.items) (one_taken c.args.actor) told t row row low c.in_ok-by_actor.ensures.value same
    ∙ ap (left_in (told_versions c.args.self.now) c.args.actor) (sym c.in_ok-type_no.was)

pub returns : goal.returns
returns c =
    let t = c.in_ok-type_no.field-0 in
    let told = c.args.self.now.versions.items in
    let row = c.in_ok-by_actor.by_actor.now in
    let queue = c.in_ok-get_mut.field-0.now in
    let low : t < length told = omega (arith, c.in_ok-by_actor.ensures.variant.0 refl, c.args.self.now.versions.ok.0) in
    let in_row : c.args.actor < length row.items = omega (arith, c.in_ok-get_mut.ensures.variant.0 refl, row.ok.0) in
    let one = queue-at (λ v. deques_of v.items) told t row low c.in_ok-by_actor.ensures.value in
    let two = queue-at (λ q. map (λ v. v.now) q.items) row.items c.args.actor queue in_row c.in_ok-get_mut.ensures.value in
    let rest = popped-rest (λ v. v.now) queue.items c.pop_front.new.self.items c.pop_front.ensures.rest in
    let taken = queue-changed (λ q. map (λ v. v.now) q.items) behind_front row.items c.args.actor queue c.pop_front.new.self in_row c.in_ok-get_mut.ensures.value rest in
    record {
      version =
          popped-front (λ v. v.now) c.pop_front.result queue.items c.pop_front.new.self.items c.pop_front.ensures.items c.pop_front.ensures.rest
          ∙ (ap front_of (sym (ap (λ qs. queue_of qs c.args.actor) one ∙ two)) ∙ ap (next_version (told_versions c.args.self.now) c.args.actor) (sym c.in_ok-type_no.was));
      left = queue-changed (λ v. deques_of v.items) (one_taken c.args.actor) told t row _ low c.in_ok-by_actor.ensures.value taken ∙ ap (left_in (told_versions c.args.self.now) c.args.actor) (sym c.in_ok-type_no.was);
    }

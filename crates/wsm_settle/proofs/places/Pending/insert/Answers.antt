use Rattle.wsm_settle.proofs.Common.{◌<◌, All, arith, nat_cmp, subst, sym, waiting}
use Rattle.std.proofs.lemmas.Map.Views.{All-insert_key}
use Rattle.wsm_settle.proofs.places.Pending.insert.Goals as goal

pub invariant_of-self-then-place-least : goal.invariant_of-self-then-place-least
invariant_of-self-then-place-least c =
    let others = waiting c.self.inside.others in
    let less = c.if-place-least.true in
    let above : All (λ y. c.in-Some.least < y) others = (rw c.in-Some.is at c.self.invariant).1 in
    (tt, subst (All (λ y. c.args.place < y)) (sym c.in_ok-insert-in-Some.ensures.ok) (All-insert_key nat_cmp c.in-Some.least (λ y. c.args.place < y) others (λ k d lt. let up = above k d lt in omega (arith, less, up)) less))

pub invariant_of-self-in-Continue-branch-2 : goal.invariant_of-self-in-Continue-branch-2
invariant_of-self-in-Continue-branch-2 c =
    let others = waiting c.self.inside.others in
    let above : All (λ y. c.in-Some.least < y) others = (rw c.in-Some.is at c.self.invariant).1 in
    rw c.in-Some.is (tt, subst (All (λ y. c.in-Some.least < y)) (sym c.in_ok-insert-in-Some-2.ensures.ok) (All-insert_key nat_cmp c.args.place (λ y. c.in-Some.least < y) others above c.if-least-place.true))

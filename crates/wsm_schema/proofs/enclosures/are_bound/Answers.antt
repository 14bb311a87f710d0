use Rattle.wsm_schema.proofs.{Common.{ℕ, ◌∙◌, ◌≡◌, ap, are_bound, are_free, arith, drop, subst, sym, take_rest}, BoundNodes.rest-free}
use Rattle.wsm_schema.proofs.enclosures.are_bound.Goals as goal

pub returns : goal.returns
returns c =
    let a = c.args.a.now in
    let b = c.args.b.now in
    let k = c.min-shorter.result in
    let last : c.loop-i.i ≡ k = omega (arith, c.loop-i.auto.i-end, c.loop-i-test.false) in
    let bound : are_bound (drop k a) (drop k b) ≡ are_bound a b = subst (λ i. are_bound (drop i a) (drop i b) ≡ are_bound a b) last c.loop-i.invariant in
    c.are_free-2.ensures ∙ ap are_free (take_rest a k) ∙ sym (rest-free k a b (omega (arith, c.min-shorter.ensures))) ∙ bound

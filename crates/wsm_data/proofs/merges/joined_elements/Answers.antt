use Rattle.wsm_data.proofs.{Common.{[], ℕ, ◌++◌, ◌+◌, ◌-◌, ◌∙◌, ◌∷◌, ◌≡◌, ◌⊎◌, ap, arith, drop, drop_all, get_or, IfOk-weaker, inl, InOrder, inr, length, List, subst, sym, take, take_rest}, Joining.{Joined, join-first, join-second}}
use Rattle.wsm_data.proofs.{Joining.{join-both, joined-order}, merges.joined_elements.Goals.{then-both-test+else-j-others, else-both-test}}
use Rattle.wsm_data.proofs.merges.joined_elements.Goals as goal

pub both-preserved-then-elements-i : goal.both-preserved-then-elements-i
both-preserved-then-elements-i c =
    let xs = c.args.elements.now in
    let ys = c.args.others.now in
    let i = c.both.i in
    let j = c.both.j in
    let lt = c.both-test.true in
    record {
      joined = subst (λ all. Joined xs ys all (drop (i + 1) xs) (drop j ys)) (sym c.in_ok-push.ensures.items) (join-first xs ys c.both.all.items i j lt c.if-j-others.true c.both.invariant.joined c.if-elements-i.true);
      first = omega (arith, lt);
      second = c.both.invariant.second;
    }

pub both-preserved-then-others-j : goal.both-preserved-then-others-j
both-preserved-then-others-j c =
    let xs = c.args.elements.now in
    let ys = c.args.others.now in
    let i = c.both.i in
    let j = c.both.j in
    let within = c.if-j-others.true in
    record {
      joined = subst (λ all. Joined xs ys all (drop i xs) (drop (j + 1) ys)) (sym c.in_ok-push-2.ensures.items) (join-second xs ys c.both.all.items i j c.both-test.true within c.both.invariant.joined c.if-others-j.true);
      first = c.both.invariant.first;
      second = omega (arith, within);
    }

pub both-preserved : goal.both-preserved
both-preserved c =
    let xs = c.args.elements.now in
    let ys = c.args.others.now in
    let i = c.both.i in
    let j = c.both.j in
    let lt = c.both-test.true in
    let within = c.if-j-others.true in
    let low = c.if-elements-i.false in
    let high = c.if-others-j.false in
    record {
      joined = subst (λ all. Joined xs ys all (drop (i + 1) xs) (drop (j + 1) ys)) (sym c.in_ok-push-3.ensures.items) (join-both xs ys c.both.all.items i j lt within c.both.invariant.joined (omega (arith, low, high)));
      first = omega (arith, lt);
      second = omega (arith, within);
    }

pub returns-clause-order : goal.returns-clause-order
returns-clause-order c =
    let xs = c.args.elements.now in
    let ys = c.args.others.now in
    let all = c.both.all.items in
    let i = c.both.i in
    let j = c.both.j in
    let empty : (drop i xs ≡ []) ⊎ (drop j ys ≡ []) =
    elim c.both-test.branch [
      | then-both-test+else-j-others w ↦ inr (drop_all j ys w.if-j-others.false)
      | else-both-test w ↦ inl (drop_all i xs w.both-test.false)
    ] in
    IfOk-weaker c.with_rests.result (λ new. new.items ≡ (all ++ take (length xs - i) (drop i xs)) ++ take (length ys - j) (drop j ys)) (λ new. InOrder new.items)
    (λ new is.
    let rests : new.items ≡ (all ++ drop i xs) ++ drop j ys = is ∙ ap (λ zs. (all ++ zs) ++ take (length ys - j) (drop j ys)) (take_rest xs i) ∙ ap (λ zs. (all ++ drop i xs) ++ zs) (take_rest ys j) in
    subst InOrder (sym rests) (joined-order xs ys all (drop i xs) (drop j ys) empty c.both.invariant.joined)) c.with_rests.ensures

use Rattle.talk_server.proofs.Common.{[], ℕ, ◌+◌, ◌∙◌, ◌∷◌, all_framed, ap, HasNoneOrAll, header, inl, IsAtRest, LeavesOnly, length, List, stays, subst}
use Rattle.talk_server.proofs.beginning.begin.Goals as goal

pub returns-in_err-holder-clause-any_moment : goal.returns-in_err-holder-clause-any_moment
returns-in_err-holder-clause-any_moment g c =
    let k = g.D.Disk in
    stays k.content k.may_leave k.moment k.left_since (HasNoneOrAll [] (header ∷ [])) g.met.D.Disk.only_now c.args.disk.now [] 0 c.requires.rest (λ image list. inl list)

pub returns-in_err-group-clause-any_moment : goal.returns-in_err-group-clause-any_moment
returns-in_err-group-clause-any_moment g c =
    let k = g.D.Disk in
    stays k.content k.may_leave k.moment k.left_since (HasNoneOrAll [] (header ∷ [])) g.met.D.Disk.only_now c.args.disk.now [] 0 c.requires.rest (λ image list. inl list)

pub returns-in-Ok-clause-rest : goal.returns-in-Ok-clause-rest
returns-in-Ok-clause-rest g c =
    let k = g.D.Disk in
    subst (λ (qs : List (List ℕ)). IsAtRest k.content k.may_leave c.append_group.new.disk qs c.in-Ok.gate) c.in_ok-group.ensures c.in-Ok.ensures.acknowledged

pub returns-in-Ok-clause-gate : goal.returns-in-Ok-clause-gate
returns-in-Ok-clause-gate g c = c.in-Ok.ensures.next ∙ ap (λ (qs : List (List ℕ)). 0 + length (all_framed qs)) c.in_ok-group.ensures

pub returns-in-Ok-clause-any_moment : goal.returns-in-Ok-clause-any_moment
returns-in-Ok-clause-any_moment g c =
    let k = g.D.Disk in
    subst (λ (qs : List (List ℕ)). LeavesOnly k.moment k.left_since c.args.disk.now c.append_group.new.disk (HasNoneOrAll [] qs)) c.in_ok-group.ensures c.append_group.ensures.any_moment

pub returns-in-Err-clause-any_moment : goal.returns-in-Err-clause-any_moment
returns-in-Err-clause-any_moment g c =
    let k = g.D.Disk in
    subst (λ (qs : List (List ℕ)). LeavesOnly k.moment k.left_since c.args.disk.now c.append_group.new.disk (HasNoneOrAll [] qs)) c.in_ok-group.ensures c.append_group.ensures.any_moment

use Rattle.case_store.proofs.{Common.{[], ◌∙◌, ◌≡◌, ap, AreKnown, arith, drop, false, length-take-le, subst, sym, take, take-append-drop}, Folds.{known-payable, stays}}
use Rattle.case_store.proofs.Staying.{known-front}
use Rattle.case_store.proofs.stores.Store.step_first.Goals as goal
use Rattle.store_room.specs.Groups.{IsFirstGroup}

pub first_group-requires-clause-payable : goal.first_group-requires-clause-payable
first_group-requires-clause-payable g c =
    known-payable c.args.self.now.held.starts c.args.self.now.held.run c.args.calls.now c.requires.1.1.1.0

pub returns-in_err-group-clause-any_moment : goal.returns-in_err-group-clause-any_moment
returns-in_err-group-clause-any_moment g c =
    λ whole. (0, stays g.D.Disk.moment g.D.Disk.left_since [] (c.requires.1.0 whole) (g.met.D.Disk.only_now c.args.self.now.disk))

pub make_group-requires : goal.make_group-requires
make_group-requires g c κs within =
    let now = c.args.self.now in
    let calls = c.args.calls.now in
    let count = c.in_ok-group.count in
    let group = c.in_ok-group.group in
    let whole : now.is_broken ≡ false = sym (ap (λ s. s.is_broken) c.self.view_is) ∙ c.if-self.false in
    let first : IsFirstGroup c.args.limit now.gate calls count group = subst (λ s. IsFirstGroup c.args.limit s.gate calls count group) c.self.view_is c.in_ok-group.ensures.first in
    let known : AreKnown now.held.starts now.held.run (take count calls) =
    known-front now.held.starts now.held.run (take count calls) (drop count calls) (subst (AreKnown now.held.starts now.held.run) (sym (take-append-drop count calls)) c.requires.1.1.1.0) in
    (search, (c.requires.1.0 whole, (omega (arith, length-take-le count calls first.within, first.some), (known, (first.are, (first.payloads, first.short))))))

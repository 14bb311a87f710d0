use Rattle.case_store.proofs.{Common.{[], ◌∙◌, ◌∷◌, ◌≡◌, ◌≤◌, ap, arith, false, has, IsBeforeOrAfter, IsStore, LeavesOnly, map, oldest, payload, payload_of, subst, sym, true}, Folds.{one-step, room-for, stays}}
use Rattle.case_store.proofs.stores.Store.step_within.Goals as goal

pub returns-in_err-framed-clause-any_moment : goal.returns-in_err-framed-clause-any_moment
returns-in_err-framed-clause-any_moment g c =
    λ whole. stays g.D.Disk.moment g.D.Disk.left_since (payload c.args.caller c.args.event.now ∷ []) (c.requires.1.0 whole) (g.met.D.Disk.only_now c.args.self.now.disk)

pub call-requires-clause-young : goal.call-requires-clause-young
call-requires-clause-young g c =
    let view = c.self.view_is in
    let whole : c.args.self.now.is_broken ≡ false = sym (ap (λ s. s.is_broken) view) ∙ c.if-self.false in
    let found = c.in_ok-framed.ensures.framed in
    room-for c.args.caller c.args.event.now c.in_ok-framed.framed (oldest c.self.inside.held.run.cases) found.0.same
    (omega (arith, subst (λ s. oldest s.held.run.cases ≤ s.gate) (sym view) (c.requires.1.0 whole).young, found.1, c.requires.1.1.1.1))

pub returns-in_err-reply-clause-any_moment : goal.returns-in_err-reply-clause-any_moment
returns-in_err-reply-clause-any_moment g c =
    let k = g.D.Disk in
    let now = c.args.self.now in
    λ whole.
    subst (λ s. LeavesOnly k.moment k.left_since now.disk s.disk (IsBeforeOrAfter (map payload_of g.past.records) (payload c.args.caller c.args.event.now))) (sym c.self.view_is)
    (stays k.moment k.left_since (payload c.args.caller c.args.event.now ∷ []) (c.requires.1.0 whole) (g.met.D.Disk.only_now now.disk))

pub returns-clause-acknowledged : goal.returns-clause-acknowledged
returns-clause-acknowledged g c =
    let k = g.D.Disk in
    let view = c.self.view_is in
    let whole : c.args.self.now.is_broken ≡ false = sym (ap (λ s. s.is_broken) view) ∙ c.if-self.false in
    let store = subst (λ s. IsStore k.content k.may_leave g.past.counts s g.past.records) (sym view) (c.requires.1.0 whole) in
    let there = subst (λ s. has s.held.starts s.held.run c.args.event.now ≡ true) (sym view) c.requires.1.1.0 in
    let found = c.in_ok-framed.ensures.framed in
    let added = c.in_ok-self-inside.ensures in
    one-step store (record { disk = c.append.new.disk; gate = c.in_ok-self-inside.field-0; held = c.call.new.self; is_broken = false }) (record { caller = c.args.caller; event = c.args.event.now })
    c.in_ok-framed.framed (found.0, there) c.in_ok-reply.ensures.run added.acknowledged added.next (omega (arith, found.1, c.requires.1.1.1.1)) c.in_ok-reply.ensures.young

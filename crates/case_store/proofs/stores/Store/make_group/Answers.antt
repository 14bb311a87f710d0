use Rattle.case_store.proofs.{Common.{◌+◌, ◌<◌, ◌^◌, ◌≤◌, all_framed, AreKnown, false, HasNoneOrAll, IsStore, LeavesOnly, length, map, oldest, payload_of, subst, sym}, Calling.told-many, Folds.{all-steps, known-calls, room-for-all, stays}}
use Rattle.case_store.proofs.stores.Store.make_group.Goals as goal

pub call_all-requires-clause-young : goal.call_all-requires-clause-young
call_all-requires-clause-young g c =
    let view = c.self.view_is in
    room-for-all c.args.calls.now c.args.group.now c.self.inside.gate (oldest c.self.inside.held.run.cases) c.requires.1.1.1.1.0
    (subst (λ s. oldest s.held.run.cases ≤ s.gate) (sym view) c.requires.1.0.young)
    (subst (λ s. s.gate + length (all_framed c.args.group.now) < 2 ^ 30) (sym view) c.requires.1.1.1.1.1.1)

pub returns-in_err-replies-clause-any_moment : goal.returns-in_err-replies-clause-any_moment
returns-in_err-replies-clause-any_moment g c =
    let k = g.D.Disk in
    let now = c.args.self.now in
    let calls = map payload_of c.args.calls.now in
    subst (λ s. LeavesOnly k.moment k.left_since now.disk s.disk (HasNoneOrAll (map payload_of g.past.records) calls)) (sym c.self.view_is)
    (stays k.moment k.left_since calls c.requires.1.0 (g.met.D.Disk.only_now now.disk))

pub returns-clause-acknowledged : goal.returns-clause-acknowledged
returns-clause-acknowledged g c =
    let k = g.D.Disk in
    let view = c.self.view_is in
    let inside = c.self.inside in
    let calls = c.args.calls.now in
    let store = subst (λ s. IsStore k.content k.may_leave g.past.counts s g.past.records) (sym view) c.requires.1.0 in
    let known = subst (λ s. AreKnown s.held.starts s.held.run calls) (sym view) c.requires.1.1.1.0 in
    let short = subst (λ s. s.gate + length (all_framed c.args.group.now) < 2 ^ 30) (sym view) c.requires.1.1.1.1.1.1 in
    let added = c.in_ok-self-inside.ensures in
    all-steps store (record { disk = c.append_group.new.disk; gate = c.in_ok-self-inside.field-0; held = c.call_all.new.self; is_broken = false }) calls c.args.group.now
    (known-calls inside.held.starts inside.held.run calls known c.requires.1.1.1.1.1.0) c.requires.1.1.1.1.0 c.in_ok-replies.ensures.run added.acknowledged added.next short c.in_ok-replies.ensures.young

pub returns-clause-many : goal.returns-clause-many
returns-clause-many g c = told-many c.self.inside.held.starts c.self.inside.held.run c.args.calls.now c.in_ok-replies.replies.items c.in_ok-replies.ensures.replies

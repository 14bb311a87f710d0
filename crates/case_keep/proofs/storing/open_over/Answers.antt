use Rattle.case_keep.proofs.{Common.{[], ◌∙◌, ap, disk_refused, HoldsBeginning, IsStore, LeavesOnly, payloads, subst, sym}, Stepped.{few-cases, opened, part-disk, untouched}}
use Rattle.case_keep.proofs.storing.open_over.Goals as goal
use Rattle.case_store.proofs.Empty.{empty-store}

pub open-requires : goal.open-requires
open-requires g c = few-cases c.args.file.now c.requires.workable c.deref.result.now (c.deref.ensures.value ∙ c.in-Ok.ensures.counts)

pub returns-in-Ok-open-clause-opened : goal.returns-in-Ok-open-clause-opened
returns-in-Ok-open-clause-opened g c =
    let k = g.D.Disk in
    let store = c.in-Ok-open.store in
    subst (λ n. IsStore k.content k.may_leave n store []) (c.deref.ensures.value ∙ c.in-Ok.ensures.counts)
    (empty-store k.content k.may_leave c.deref.result.now (k.content c.args.disk) store c.requires.settled.gives c.in-Ok-open.ensures.opened)

pub returns-in-Ok-open-clause-any_moment : goal.returns-in-Ok-open-clause-any_moment
returns-in-Ok-open-clause-any_moment g c =
    let k = g.D.Disk in
    opened k.content k.may_leave k.moment k.left_since c.args.disk c.in-Ok-open.store.disk (payloads c.args.file.now) c.requires.settled.leaves c.in-Ok-open.ensures.any_moment

pub returns-in-Ok-clause-moment_of_a_fault : goal.returns-in-Ok-clause-moment_of_a_fault
returns-in-Ok-clause-moment_of_a_fault g c =
    let k = g.D.Disk in
    let all = payloads c.args.file.now in
    let e = c.in-Err-open.refusal in
    subst (λ d. LeavesOnly k.moment k.left_since c.args.disk d (HoldsBeginning all [])) (sym (ap (λ x. x.0) c.part_of.ensures ∙ part-disk e))
    (opened k.content k.may_leave k.moment k.left_since c.args.disk (disk_refused e) all c.requires.settled.leaves c.in-Err-open.ensures.any_moment)

pub returns-clause-moment_of_a_fault : goal.returns-clause-moment_of_a_fault
returns-clause-moment_of_a_fault g c =
    let k = g.D.Disk in
    untouched k.content k.may_leave k.moment k.left_since g.met.D.Disk.only_now c.args.disk (payloads c.args.file.now) c.requires.settled.leaves

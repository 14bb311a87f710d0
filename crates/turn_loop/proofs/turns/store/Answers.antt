use Rattle.turn_loop.proofs.{Common.{HasNoneOrAll, inl}, Stored.{gate-short, some-there, stays}}
use Rattle.turn_loop.proofs.turns.store.Goals as goal

pub returns-then-is_empty-clause-any_moment : goal.returns-then-is_empty-clause-any_moment
returns-then-is_empty-clause-any_moment g c =
    let k = g.D.Disk in
    stays k.content k.may_leave k.moment k.left_since (HasNoneOrAll g.ps c.args.group.now) g.met.D.Disk.only_now c.args.disk.now g.ps c.args.gate c.requires.1.0 (λ image list. inl list)

pub returns-in-Ok-clause-short : goal.returns-in-Ok-clause-short
returns-in-Ok-clause-short g c =
    let k = g.D.Disk in
    gate-short k.content k.may_leave c.append_group.new.disk g.ps c.args.group.now c.in-Ok.next c.in-Ok.ensures.acknowledged
    c.requires.1.1.1 (some-there c.args.group.now c.is_empty.result c.is_empty.ensures c.if-is_empty.false)

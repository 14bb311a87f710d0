use Rattle.store_disk.proofs.{Common.{ℕ, arith, HasNoneOrAll, List}, Moments.{started, goes_on}, Steps.{gate-list, gate-size, is-at-rest, next-gate, staged-list, staged-room}}
use Rattle.store_disk.proofs.records.open_gate.Goals as goal

pub write-requires : goal.write-requires
write-requires g c = record { within = omega (arith, staged-room g.D.Disk.content g.D.Disk.may_leave c.args.disk.now g.ps c.args.group.now c.args.gate c.requires.1.0) }

pub returns-in_err-write-clause-any_moment : goal.returns-in_err-write-clause-any_moment
returns-in_err-write-clause-any_moment g c =
    let k = g.D.Disk in
    let s = c.requires.1.0 in
    let some = c.requires.1.1.0 in
    let P = HasNoneOrAll g.ps c.args.group.now in
    let at_start = started k.moment k.left_since c.args.disk.now P (λ f left. staged-list k.content k.may_leave c.args.disk.now g.ps c.args.group.now c.args.gate some s f (g.met.D.Disk.only_now c.args.disk.now f left)) in
    goes_on k.moment k.left_since c.args.disk.now c.args.disk.now c.write.new.self P _ at_start c.write.ensures.time (λ f now. gate-list k.content k.may_leave c.args.disk.now g.ps c.args.group.now c.args.gate _ some s c.write.ensures.stop f now)

pub returns-in_err-sync-clause-any_moment : goal.returns-in_err-sync-clause-any_moment
returns-in_err-sync-clause-any_moment g c =
    let k = g.D.Disk in
    let s = c.requires.1.0 in
    let some = c.requires.1.1.0 in
    let P = HasNoneOrAll g.ps c.args.group.now in
    let at_start = started k.moment k.left_since c.args.disk.now P (λ f left. staged-list k.content k.may_leave c.args.disk.now g.ps c.args.group.now c.args.gate some s f (g.met.D.Disk.only_now c.args.disk.now f left)) in
    let first : (f : List ℕ) → k.may_leave c.write.new.self f → P f = gate-list k.content k.may_leave c.args.disk.now g.ps c.args.group.now c.args.gate _ some s c.write.ensures.stop in
    let written = goes_on k.moment k.left_since c.args.disk.now c.args.disk.now c.write.new.self P _ at_start c.write.ensures.time first in
    goes_on k.moment k.left_since c.args.disk.now c.write.new.self c.sync.new.self P _ written c.sync.ensures.time (λ f now. first f (c.sync.ensures.stop f now))

pub returns-clause-any_moment : goal.returns-clause-any_moment
returns-clause-any_moment g c =
    let k = g.D.Disk in
    let s = c.requires.1.0 in
    let some = c.requires.1.1.0 in
    let P = HasNoneOrAll g.ps c.args.group.now in
    let at_start = started k.moment k.left_since c.args.disk.now P (λ f left. staged-list k.content k.may_leave c.args.disk.now g.ps c.args.group.now c.args.gate some s f (g.met.D.Disk.only_now c.args.disk.now f left)) in
    let first : (f : List ℕ) → k.may_leave c.write.new.self f → P f = gate-list k.content k.may_leave c.args.disk.now g.ps c.args.group.now c.args.gate _ some s c.write.ensures.stop in
    let written = goes_on k.moment k.left_since c.args.disk.now c.args.disk.now c.write.new.self P _ at_start c.write.ensures.time first in
    goes_on k.moment k.left_since c.args.disk.now c.write.new.self c.sync.new.self P _ written c.sync.ensures.time (λ f now. first f (c.sync.ensures.stop f now))

pub returns-clause-rest : goal.returns-clause-rest
returns-clause-rest g c =
    let k = g.D.Disk in
    rw c.span.ensures.length (is-at-rest k.content k.may_leave c.args.disk.now c.sync.new.self g.ps c.args.group.now c.args.gate c.requires.1.1.0 c.requires.1.0
    (k.content c.write.new.self) c.sync.ensures.content c.in_ok-write.ensures.written c.in_ok-sync.ensures.durable)

pub returns-clause-size : goal.returns-clause-size
returns-clause-size g c =
    let k = g.D.Disk in
    gate-size c.args.gate (k.content c.args.disk.now) (k.content c.write.new.self) (k.content c.sync.new.self)
    (staged-room k.content k.may_leave c.args.disk.now g.ps c.args.group.now c.args.gate c.requires.1.0) c.sync.ensures.content c.in_ok-write.ensures.written

pub returns-clause-next_gate : goal.returns-clause-next_gate
returns-clause-next_gate g c =
    let k = g.D.Disk in
    rw c.span.ensures.length (next-gate k.content k.may_leave c.args.disk.now c.sync.new.self g.ps c.args.group.now c.args.gate c.requires.1.1.0 c.requires.1.0
    (k.content c.write.new.self) c.sync.ensures.content c.in_ok-write.ensures.written)

use Rattle.talk_state.proofs.{Common.{ap, CanWork, entries_of, File, gives_as, gives_then, length, said_called, said_worked, subst, sym, true, unit_read}, Taken.can-say, WhatIf.unit-told}
use Rattle.talk_state.proofs.trying.put_unit.Goals as goal

pub put_said-requires : goal.put_said-requires
put_said-requires g c =
    let taken = c.in-Ok.ensures.taken in
    let before = c.args.file.now in
    subst (λ (f : File). CanWork f c.in-Ok.said c.args.run.now) (sym c.file.ensures.file)
    (can-say (length c.args.unit.now) before c.take_unit.new.self (unit_read before c.args.unit.now) c.in-Ok.said c.args.run.now c.requires taken.1 c.file.ensures.ready c.in-Ok.ensures.effort)

pub returns-in_ok-ok-in-Ok-clause-answer : goal.returns-in_ok-ok-in-Ok-clause-answer
returns-in_ok-ok-in-Ok-clause-answer g c =
    let taken = c.in-Ok.ensures.taken in
    let before = c.args.file.now in
    let said = c.in-Ok.said in
    let p = c.args.run.now in
    let written = g.K.Sink.written in
    let faults = g.K.Sink.faults in
    let ok = c.in_ok-ok-in-Ok.ok in
    let old = c.args.sink.now in
    let said_to = c.put_said.new.sink in
    let same = ap (λ (f : File). entries_of f (said_worked f said p) (said_called f said)) c.file.ensures.file in
    let entries = gives_as written faults true ok old said_to _ _ c.in_ok-ok-in-Ok.ensures.entries same in
    gives_as written faults true c.put_ok.result old c.put_ok.new.sink _ _ (gives_then written faults true ok c.put_ok.result old said_to c.put_ok.new.sink _ _ entries c.put_ok.ensures)
    (unit-told before c.take_unit.new.self (unit_read before c.args.unit.now) said p c.requires.placing taken.1 c.args.has_room c.args.count taken.0)

use Rattle.talk_state.proofs.{Common.{gives_as, gives_then, length, true, unit_read}, WhatIf.{can-move, move-told}}
use Rattle.talk_state.proofs.trying.put_move.Goals as goal

pub put_moved-requires : goal.put_moved-requires
put_moved-requires g c =
    let taken = c.in-Ok.ensures.taken in
    let before = c.args.file.now in
    can-move (length c.args.install.now) (length c.args.migrate.now) before c.take_unit.new.self (unit_read before c.args.install.now) c.in-Ok.said c.args.run.now c.requires taken.1 c.file.ensures.ready c.in-Ok.ensures.effort c.in-Ok.ensures.names

pub returns-in_ok-ok-in-Ok-clause-answer : goal.returns-in_ok-ok-in-Ok-clause-answer
returns-in_ok-ok-in-Ok-clause-answer g c =
    let taken = c.in-Ok.ensures.taken in
    let before = c.args.file.now in
    let written = g.K.Sink.written in
    let faults = g.K.Sink.faults in
    let ok = c.in_ok-ok-in-Ok.ok in
    let old = c.args.sink.now in
    let moved_to = c.put_moved.new.sink in
    gives_as written faults true c.put_ok.result old c.put_ok.new.sink _ _ (gives_then written faults true ok c.put_ok.result old moved_to c.put_ok.new.sink _ _ c.in_ok-ok-in-Ok.ensures.entries c.put_ok.ensures)
    (move-told before c.take_unit.new.self (unit_read before c.args.install.now) c.in-Ok.said c.args.run.now c.requires.placing taken.1 c.args.count c.args.migrate.now)

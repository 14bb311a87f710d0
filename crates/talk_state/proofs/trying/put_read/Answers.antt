use Rattle.talk_state.proofs.{Common.{ap, CanWork, entries_of, File, gives_as, length, said_called, said_worked, subst, sym, unit_read}, Taken.can-say, WhatIf.entries-told}
use Rattle.talk_state.proofs.trying.put_read.Goals as goal

pub put_said-requires : goal.put_said-requires
put_said-requires g c =
    let taken = c.in-Ok.ensures.taken in
    let before = c.args.file.now in
    subst (λ (f : File). CanWork f c.in-Ok.said c.args.run.now) (sym c.file.ensures.file)
    (can-say (length c.args.unit.now) before c.take_unit.new.self (unit_read before c.args.unit.now) c.in-Ok.said c.args.run.now c.requires taken.1 c.file.ensures.ready c.in-Ok.ensures.effort)

pub returns-in-Ok-clause-entries : goal.returns-in-Ok-clause-entries
returns-in-Ok-clause-entries g c =
    let taken = c.in-Ok.ensures.taken in
    let before = c.args.file.now in
    let said = c.in-Ok.said in
    let p = c.args.run.now in
    let same = ap (λ (f : File). entries_of f (said_worked f said p) (said_called f said)) c.file.ensures.file in
    gives_as _ _ _ _ _ _ _ _ (gives_as _ _ _ _ _ _ _ _ c.in_ok-ok-in-Ok.ensures.entries same)
    (entries-told before c.take_unit.new.self (unit_read before c.args.unit.now) said p c.requires.placing taken.1)

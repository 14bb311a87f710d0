use Rattle.talk_state.proofs.{Common.{◌++◌, ◌∙◌, ◌≡◌, ap, entries, entries_read, File, held_in, rules, sym, true, unit_read, was_installed}, TakenBy.not_false, WhatIf.made-with}
use Rattle.line_calls.specs.declared.calls.Cells.TheVariants as cells
use Rattle.talk_answers.proofs.GivenIf.{if_given-then}
use Rattle.talk_state.proofs.trying.put_made.Goals as goal

pub returns-clause-entries : goal.returns-clause-entries
returns-clause-entries g c =
    let before = c.args.file.now in
    let q = c.args.run.now in
    let t = c.args.type_no in
    let m = c.args.migrate.now in
    let has : c.was_installed.result ≡ true = first_of (cc c.if-not-was_installed.false, search rules, search (rules, not_false)) in
    let installed : was_installed t q.run ≡ true = sym c.was_installed.ensures ∙ has in
    let same = ap (λ (f : File). entries f q (cells.Kind t) ++ entries_read (held_in before q.run) (unit_read before m)) c.file.ensures.file ∙ made-with before t m q installed in
    if_given-then g.K.Sink.written g.K.Sink.faults true c.put_entries-ok.result c.args.sink.now c.put_entries-ok.new.sink _ _ _ _ c.put_read.result same c.put_entries-ok.ensures c.put_read.ensures.entries

use Rattle.talk_answers.proofs.{Common.{◌∙◌, ap, call_tried, cells_told, entries, on_kind, Option, Placing, sym, told_to, VersionModel}, GivenIf.{if_given-as, if_given-then}, Tried.{case-same, told-same}}
use Rattle.type_core.specs.declared.events.KindEvent.TheVariants as kind_event
use Rattle.talk_answers.proofs.tries.put_call_tried.Goals as goal

pub returns-in-Case-clause-entries : goal.returns-in-Case-clause-entries
returns-in-Case-clause-entries g c =
    let f = c.args.file.now in
    let p : Placing = c.args.run.now in
    let a = c.args.caller in
    let same = case-same f p a c.in-Case.event c.in-Case.id c.requires.of ∙ sym (ap (call_tried f p a) c.in-Case.is) in
    if_given-as g.K.Sink.written g.K.Sink.faults c.args.ok c.args.sink.now _ _ _ c.put_case_tried.result same c.put_case_tried.ensures.entries

pub returns-in_ok-version-in-Newest-clause-entries : goal.returns-in_ok-version-in-Newest-clause-entries
returns-in_ok-version-in-Newest-clause-entries g c =
    let f = c.args.file.now in
    let p : Placing = c.args.run.now in
    let a = c.args.caller in
    let t = c.in-Newest.type_no in
    let w = c.in-Newest.then in
    let same = told-same f p a t w c.in_ok-version-in-Newest.version c.requires.of
    ∙ (ap (λ (o : Option VersionModel). entries f (record p { run = told_to f a t w o (on_kind a t kind_event.Newest p.run) }) (cells_told t w)) c.in_ok-version-in-Newest.ensures ∙ sym (ap (call_tried f p a) c.in-Newest.is)) in
    if_given-then g.K.Sink.written g.K.Sink.faults c.args.ok c.in_ok-ok-in-Newest.ok c.args.sink.now c.put_kind_tried-in-Newest.new.sink _ _ _ _ c.put_told_tried.result same c.in_ok-ok-in-Newest.ensures c.put_told_tried.ensures.entries

use Rattle.script_run.proofs.{Common.{◌<◌, ◌∙◌, ◌≡◌, ap, call_case, changed_at, get_or, length, sym, take, weight}, Aging.{young-at, oldest-each_of}, Each.{each-at, each-called, each-passed}}
use Rattle.script_run.proofs.calls.Working.on_each.Goals.{then-is_among+in_ok-copy+in_ok-on_case_at, else-is_among}
use Rattle.script_run.proofs.calls.Working.on_each.Goals as goal

pub on_case_at-requires : goal.on_case_at-requires
on_case_at-requires c =
    rw (c.in_ok-copy.ensures, c.loop-place.invariant.cases, each-at c.args.type_no c.args.many (call_case c.args.caller c.args.event.now) c.args.script.now.file.now.cases c.args.self.now.cases.items c.loop-place.place)
    (young-at c.args.self.now.cases.items c.loop-place.place (weight c.args.event.now) 4000000000 c.requires)

pub loop-place-preserved : goal.loop-place-preserved
loop-place-preserved c =
    let within : c.loop-place.place < length c.args.script.now.file.now.cases = rw c.as_slice-decl-items.ensures at c.loop-place-test.true in
    let item : c.decl-item.result ≡ get_or c.args.script.now.file.now.cases c.loop-place.place c.decl-item.result = rw c.as_slice-decl-items.ensures at c.decl-item.is in
    elim c.if-is_among.branch [
      | then-is_among+in_ok-copy+in_ok-on_case_at w ↦
          let call = call_case c.args.caller c.args.event.now in
          let called : w.on_case_at.new.self.cases.items ≡ changed_at call c.loop-place.place c.loop-place.self.cases.items = rw w.in_ok-copy.ensures at w.in_ok-on_case_at.ensures.cases in
          record {
            kinds = ap (λ s. s.kinds.items) w.self-is ∙ w.in_ok-on_case_at.ensures.kinds ∙ c.loop-place.invariant.kinds;
            cases =
                ap (λ s. s.cases.items) w.self-is ∙ called ∙ ap (λ cs. changed_at call c.loop-place.place cs) c.loop-place.invariant.cases
                ∙ sym (each-called c.args.type_no c.args.many call c.args.script.now.file.now.cases c.args.self.now.cases.items c.loop-place.place c.decl-item.result within item (sym c.is_among.ensures ∙ w.if-is_among.true));
          }
      | else-is_among w ↦ record {
        kinds = ap (λ s. s.kinds.items) w.self-is ∙ c.loop-place.invariant.kinds;
        cases =
            ap (λ s. s.cases.items) w.self-is ∙ c.loop-place.invariant.cases
            ∙ sym (each-passed c.args.type_no c.args.many (call_case c.args.caller c.args.event.now) c.args.script.now.file.now.cases c.args.self.now.cases.items c.loop-place.place c.decl-item.result within item (sym c.is_among.ensures ∙ w.if-is_among.false));
      }
    ]

pub returns-clause-age : goal.returns-clause-age
returns-clause-age c =
    rw c.loop-place.invariant.cases (oldest-each_of c.args.type_no c.args.many c.args.caller c.args.event.now (take c.loop-place.place c.args.script.now.file.now.cases) c.args.self.now.cases.items)

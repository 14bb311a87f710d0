use Rattle.case_audit.proofs.{Common.{◌∙◌, ap, asked_of, changed_at, if◌then◌else◌, is_among, numbers, put_where, sym, take, with_line}, Sharing.put-more, owed.add_to_each.Goals.{then-is_among+in_ok-add_at, else-is_among}}
use Rattle.case_audit.proofs.owed.add_to_each.Goals as goal

pub loop-place-preserved : goal.loop-place-preserved
loop-place-preserved c =
    let cases = c.args.cases.now in
    let i = c.loop-place.place in
    let decl = c.index-cases-place.result in
    let called = is_among c.args.type_no c.args.many in
    let f = with_line c.args.phase (asked_of c.args.call) in
    let before = put_where called f (take i cases) (numbers c.args.owed.now.items) in
    let more = put-more called f cases (numbers c.args.owed.now.items) i decl c.loop-place-test.true c.index-cases-place.is in
    elim c.if-is_among.branch [
      | then-is_among+in_ok-add_at w ↦
          ap (λ o. numbers o.items) w.owed-is ∙ (w.in_ok-add_at.ensures ∙ (ap (changed_at f i) c.loop-place.invariant
          ∙ sym (more ∙ ap (λ test. if test then changed_at f i before else before) (sym c.is_among.ensures ∙ w.if-is_among.true))))
      | else-is_among w ↦
          ap (λ o. numbers o.items) w.owed-is ∙ (c.loop-place.invariant
          ∙ sym (more ∙ ap (λ test. if test then changed_at f i before else before) (sym c.is_among.ensures ∙ w.if-is_among.false)))
    ]

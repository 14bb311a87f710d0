use Rattle.talk_server.proofs.{Common.{◌++◌, ◌<◌, ◌∙◌, ◌≡◌, ◌≤◌, ap, codes, kind, length, MAX_ITEM, next_refused, on_ok_weaker, subst, sym, units_in}, Answering.{long-answer, long-by, question-told, short-answer, short-by, unit-told}}
use Rattle.talk_items.specs.declared.items.ItemKind.TheVariants as kinds
use Rattle.talk_server.proofs.responding.Server.answer.Goals as goal

pub returns-then-is_too_long-clause-answer : goal.returns-then-is_too_long-clause-answer
returns-then-is_too_long-clause-answer g c = λ first ps item s.
    let rules = g.H.Holder.rules in
    let long : MAX_ITEM < length item = subst (λ i. MAX_ITEM < length i) s.begun_with (long-by c.is_too_long.result c.args.self.now.item c.is_too_long.ensures c.if-is_too_long.true) in
    c.in_ok-refuse_next.ensures
    ∙ ap (λ t. c.args.text.now.items ++ t) (ap (λ i. next_refused rules i (codes "limit bytes")) s.begun_with ∙ sym (long-answer rules ps item first long))

pub returns-in-Unit-clause-answer : goal.returns-in-Unit-clause-answer
returns-in-Unit-clause-answer g c = λ first ps item s.
    let own : length c.args.self.now.item ≤ MAX_ITEM = short-by c.is_too_long.result c.args.self.now.item c.is_too_long.ensures c.if-is_too_long.false in
    let is : kind c.args.self.now.item ≡ kinds.Unit = sym c.kind.ensures ∙ c.in-Unit.is in
    on_ok_weaker c.answer_unit.result
    (unit-told g.H.Holder.rules ps item c.args.self.now.item c.bytes.result.now c.args.text.now.items c.answer_unit.new.text.items first s.begun_with (c.bytes.ensures own) own is)
    (c.answer_unit.ensures.answer (units_in ps) s.keeps)

pub returns-in_ok-answer_question-in-Question-clause-answer : goal.returns-in_ok-answer_question-in-Question-clause-answer
returns-in_ok-answer_question-in-Question-clause-answer g c = λ first ps item s.
    let own : length c.args.self.now.item ≤ MAX_ITEM = short-by c.is_too_long.result c.args.self.now.item c.is_too_long.ensures c.if-is_too_long.false in
    let is : kind c.args.self.now.item ≡ kinds.Question = sym c.kind.ensures ∙ c.in-Question.is in
    question-told g.H.Holder.rules ps item c.args.self.now.item c.bytes-in-Question.result.now c.args.text.now.items c.answer_question.new.text.items first s.begun_with (c.bytes-in-Question.ensures own) own is
    (c.in_ok-answer_question-in-Question.ensures.answer (units_in ps) s.keeps)

pub returns-in_ok-answer_header-in-Header-clause-answer : goal.returns-in_ok-answer_header-in-Header-clause-answer
returns-in_ok-answer_header-in-Header-clause-answer g c = λ first ps item s.
    let rules = g.H.Holder.rules in
    let own : length c.args.self.now.item ≤ MAX_ITEM = short-by c.is_too_long.result c.args.self.now.item c.is_too_long.ensures c.if-is_too_long.false in
    let short : length item ≤ MAX_ITEM = subst (λ i. length i ≤ MAX_ITEM) s.begun_with own in
    let is = ap kind (sym s.begun_with) ∙ sym c.kind.ensures ∙ c.in-Header.is in
    c.in_ok-answer_header-in-Header.ensures first ps item s ∙ ap (λ t. c.args.text.now.items ++ t) (sym (short-answer rules ps item first kinds.Header short is))

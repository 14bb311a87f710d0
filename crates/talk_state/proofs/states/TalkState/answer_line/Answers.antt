use Rattle.talk_state.proofs.{Common.{◌∙◌, ◌≡◌, ap, known_in, option_map, shown_question, Some, sym}, Asking.answer-told}
use Rattle.talk_questions.specs.Questions.{question_in}
use Rattle.talk_state.proofs.states.TalkState.answer_line.Goals as goal

pub returns-in-Some-known : goal.returns-in-Some-known
returns-in-Some-known c = λ units h.
    let q = shown_question c.in-Some.question in
    let asks : Some q ≡ question_in c.args.line.now = ap (option_map shown_question) (sym c.in-Some.is) ∙ c.in_ok-question.ensures in
    let known : known_in c.args.self.now.contents q ≡ Some c.in-Some-known.asked = sym c.in-Some-known.ensures in
    answer-told c.tell.result units c.args.self.now c.args.line.now c.args.text.now.items c.tell.new.text.items q c.in-Some-known.asked h asks known c.tell.ensures

use Rattle.talk_state.proofs.{Common.{◌++◌, ◌∙◌, ap}, Answered.answer-taken}
use Rattle.talk_state.proofs.holding.TalkStateHolder.answer_unit.Goals as goal

pub returns-in_ok-tell_taken-in-Ok-clause-answer : goal.returns-in_ok-tell_taken-in-Ok-clause-answer
returns-in_ok-tell_taken-in-Ok-clause-answer c = λ units h.
    c.in_ok-tell_taken-in-Ok.ensures
    ∙ ap (λ bs. c.args.text.now.items ++ bs) (answer-taken units c.args.unit.now c.take.new.self (c.in-Ok.ensures.accepted units h) (c.in-Ok.ensures.taken units h))

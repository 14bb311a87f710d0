use Rattle.talk_state.proofs.{Common.{IfSome, length, shown_asking, shown_trial, subst}, Tried.within-more}
use Rattle.talk_questions.specs.Trials.{IsShort, IsWithin}
use Rattle.talk_state.proofs.states.TalkState.answer.Goals as goal

pub answer_trial-requires : goal.answer_trial-requires
answer_trial-requires c =
    let n = length c.args.item.now in
    let within = subst (λ o. IfSome o (λ q. IsWithin n (shown_asking q))) c.in-Some.is c.in_ok-question.ensures.short in
    let less = within-more n 8388608 (shown_asking c.in-Some.question) c.requires.short within in
    record { short = subst (λ o. IfSome o (λ t. IsShort 8388608 (shown_trial t))) c.in-Some-2.is (c.in_ok-trial_in.ensures.short 8388608 less) }

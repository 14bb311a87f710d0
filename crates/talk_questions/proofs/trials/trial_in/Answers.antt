use Rattle.std.proofs.Common.{◌≡◌, rules, subst}
use Rattle.file_words.specs.{Lines.without_return, Shown.shown, Words.words_of}
use Rattle.talk_questions.proofs.ShortWords.{words-short}
use Rattle.talk_questions.specs.Trials.{AreShort}
use Rattle.talk_questions.proofs.trials.trial_in.Goals as goal

pub returns-clause-short : goal.returns-clause-short
returns-clause-short c = λ n within.
    let line = c.args.question.line.now in
    let are : words_of (without_return line) ≡ shown c.deref.result.now = search rules in
    c.trial_by.ensures.short n (subst (AreShort n) are (words-short n line within.1)) within

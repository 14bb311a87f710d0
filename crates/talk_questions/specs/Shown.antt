-- Questions as contracts see them: without where their words lie in memory.
use Rattle.talk_questions.specs.Questions as asked
use Rattle.talk_questions.specs.{declared.questions.Question.Question, declared.asking.Asking.Asking, declared.trials.Trial.Trial}
use Rattle.talk_questions.specs.declared.questions.Question.TheVariants as question
use Rattle.talk_questions.specs.Trials as trials
use Rattle.talk_questions.specs.declared.trials.Trial.TheVariants as trial

abbrev pub shown_question : Question → asked.Asked
shown_question question.Report = asked.report
shown_question (question.Type w) = asked.of_type w.bytes.now
shown_question (question.Case w) = asked.of_case w.bytes.now
shown_question question.Cases = asked.cases
shown_question (question.CasesOf w) = asked.cases_of w.bytes.now
shown_question question.Items = asked.items
shown_question (question.ItemsOf w) = asked.items_of w.bytes.now
shown_question question.Types = asked.types
shown_question question.Actors = asked.actors
shown_question question.Count = asked.count
shown_question question.Last = asked.last
shown_question question.Lines = asked.lines

abbrev pub shown_asking : Asking → trials.Asking
shown_asking q = record { bytes = q.bytes.now; line = q.line.now; more = q.more.now }

abbrev pub shown_trial : Trial → trials.Trial
shown_trial (trial.Unit u) = trials.unit u.now
shown_trial (trial.Move a t lines) = trials.move a.now t.now lines.now
shown_trial trial.NoForm = trials.no_form
shown_trial trial.NoText = trials.no_text

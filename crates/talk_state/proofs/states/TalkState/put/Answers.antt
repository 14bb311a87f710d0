use Rattle.talk_state.proofs.Common.{◌∙◌, ap, File, file_of, gives_as, State, sym, text, told}
use Rattle.talk_state.proofs.states.TalkState.put.Goals as goal

pub returns-in-Report : goal.returns-in-Report
returns-in-Report g c =
    gives_as _ _ _ _ _ _ _ _ c.put_report.ensures
    (ap (λ (f : File). text f c.self.inside.run.run) c.file-file.ensures.file
    ∙ (ap (λ (s : State). text (file_of s.contents) s.placing.run) c.self.view_is ∙ ap (told c.args.self.now) (sym c.in-Report.is)))

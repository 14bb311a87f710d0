use Rattle.report_text.proofs.Common.{◌∙◌, ◌≡◌, ap, case_line, end_text, gives_as, gives_then, numbered}
use Rattle.script_run.specs.CaseEnds.{CaseEnd}
use Rattle.report_text.proofs.report.put_case.Goals as goal

pub returns : goal.returns
returns g c =
    let file = c.args.file.now in
    let calls : c.as_slice.result.now ≡ c.args.case.now.journal = c.as_slice.ensures ∙ ap (λ (k : CaseEnd). k.journal) c.case.view_is in
    let live : c.live.result ≡ c.args.case.now.machine.live = c.live.ensures.live ∙ ap (λ (k : CaseEnd). k.machine.live) c.case.view_is in
    gives_then _ _ _ _ _ _ _ _ _ _ c.put_case_head-ok.ensures
    (gives_then _ _ _ _ _ _ _ _ _ _ (gives_as _ _ _ _ _ _ _ _ c.put_case_journal-ok.ensures (ap (numbered (case_line file) 1) calls))
    (gives_as _ _ _ _ _ _ _ _ c.put_end.ensures (ap (end_text file) live)))

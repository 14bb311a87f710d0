use Rattle.talk_answers.proofs.Common.{◌∙◌, ap, cases_text, gives_as, gives_then, kinds_text}
use Rattle.report_words.specs.Totals.{case_totals, migration_totals}
use Rattle.talk_answers.proofs.reports.put_report.Goals as goal

pub returns : goal.returns
returns g c =
    let f = c.args.file.now in
    let kinds = ap (λ ts. kinds_text f ts c.kinds.result.now) c.as_slice.ensures ∙ ap (kinds_text f f.types) c.kinds.ensures in
    let cases = ap (λ ds. cases_text f ds c.cases.result.now) c.as_slice-2.ensures ∙ ap (cases_text f f.cases) c.cases.ensures in
    gives_then _ _ _ _ _ _ _ _ _ _ c.put_first_line-ok.ensures
    (gives_then _ _ _ _ _ _ _ _ _ _ (gives_as _ _ _ _ _ _ _ _ c.put_kinds-ok.ensures kinds)
    (gives_then _ _ _ _ _ _ _ _ _ _ (gives_as _ _ _ _ _ _ _ _ c.put_cases-ok.ensures cases)
    (gives_then _ _ _ _ _ _ _ _ _ _ (gives_as _ _ _ _ _ _ _ _ c.put_case_totals-ok.ensures (ap case_totals c.cases-2.ensures))
    (gives_as _ _ _ _ _ _ _ _ c.put_migration_totals.ensures (ap migration_totals c.cases-3.ensures)))))

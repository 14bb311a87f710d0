use Rattle.std.proofs.Common.{sym, subst}
use Rattle.std.specs.Prelude.{IfErr}
use Rattle.file_forms.specs.{Shown.shown_type_line, declared.type_lines.TypeLine.TypeLine}
use Rattle.file_model.specs.{Outcomes.Stops, Typing.typed}
use Rattle.file_state.proofs.typing.put_line.Goals as goal

pub returns-in-Sync-clause-refused : goal.returns-in-Sync-clause-refused
returns-in-Sync-clause-refused c =
    subst (λ (l : TypeLine). IfErr c.sync_line.result (λ stop. Stops (typed (shown_type_line l) c.args.draft.now c.args.contents.now) c.sync_line.new.contents stop)) (sym c.in-Sync.is)
    c.sync_line.ensures.refused

pub returns-in-Read-clause-refused : goal.returns-in-Read-clause-refused
returns-in-Read-clause-refused c =
    subst (λ (l : TypeLine). IfErr c.read_line.result (λ stop. Stops (typed (shown_type_line l) c.args.draft.now c.args.contents.now) c.read_line.new.contents stop)) (sym c.in-Read.is)
    c.read_line.ensures.refused

pub returns-in-Write-clause-refused : goal.returns-in-Write-clause-refused
returns-in-Write-clause-refused c =
    subst (λ (l : TypeLine). IfErr c.write_line.result (λ stop. Stops (typed (shown_type_line l) c.args.draft.now c.args.contents.now) c.write_line.new.contents stop)) (sym c.in-Write.is)
    c.write_line.ensures.refused

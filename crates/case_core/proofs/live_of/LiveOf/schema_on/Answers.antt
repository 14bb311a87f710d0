use Rattle.case_core.proofs.Common.{[], ◌∙◌, ◌≡◌, ap, change_none, changed_by, fault_of, None, Ok, rules, sym}
use Rattle.case_core.proofs.live_of.LiveOf.schema_on.Goals as goal

pub returns-then-is_empty-clause-ok : goal.returns-then-is_empty-clause-ok
returns-then-is_empty-clause-ok g c =
    let none : c.args.self.now.own ≡ [] = search rules in
    let sound : fault_of c.args.version.now.schema ≡ None = search rules in
    let same : c.in_ok-share_schema.field-0.value ≡ c.args.version.now.schema = search rules in
    ap (changed_by c.args.version.now.schema) none ∙ change_none c.args.version.now.schema sound ∙ ap Ok (sym same)

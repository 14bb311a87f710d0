use Rattle.store_disk.proofs.{Common.{◌∙◌, ◌∷◌, ap, has_written, length, map, past_of, wrote}, Entries.past-wrote}
use Rattle.store_disk.proofs.logged.LoggedBytes.write.Goals as goal

pub invariant_of-self : goal.invariant_of-self
invariant_of-self c =
    let old = c.self.inside in
    let bytes = c.args.bytes.now in
    ap has_written (ap (past_of (λ v. map (λ e. e.0) v.items)) c.and-self-inside.ensures ∙ past-wrote (λ v. map (λ e. e.0) v.items) old.changes.items c.noted.result c.args.at (length bytes) bytes c.noted.ensures)

pub returns-clause-past : goal.returns-clause-past
returns-clause-past c =
    let old = c.self.inside in
    let bytes = c.args.bytes.now in
    ap (past_of (λ v. map (λ e. e.0) v.items)) c.and-self-inside.ensures
    ∙ past-wrote (λ v. map (λ e. e.0) v.items) old.changes.items c.noted.result c.args.at (length bytes) bytes c.noted.ensures
    ∙ ap (λ h. wrote c.args.at bytes ∷ h.past) c.self.view_is

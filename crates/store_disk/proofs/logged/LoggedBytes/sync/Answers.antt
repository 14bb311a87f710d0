use Rattle.store_disk.proofs.{Common.{◌∙◌, ◌∷◌, ap, first_of, IsHeld, map, past_of, subst, sym, synced}, Entries.past-synced}
use Rattle.store_disk.proofs.logged.LoggedBytes.sync.Goals as goal

pub invariant_of-self : goal.invariant_of-self
invariant_of-self c =
    let old = c.self.inside in
    subst (IsHeld (λ v. v.items) old.bytes (first_of (λ v. v.items) old.began.items)) (sym (ap (past_of (λ v. map (λ e. e.0) v.items)) c.and-self-inside.ensures ∙ past-synced (λ v. map (λ e. e.0) v.items) old.changes.items c.new.result)) c.self.invariant

pub returns-clause-past : goal.returns-clause-past
returns-clause-past c =
    let old = c.self.inside in
    ap (past_of (λ v. map (λ e. e.0) v.items)) c.and-self-inside.ensures ∙ past-synced (λ v. map (λ e. e.0) v.items) old.changes.items c.new.result ∙ ap (λ h. synced ∷ h.past) c.self.view_is

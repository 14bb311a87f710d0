use Rattle.wsm_schema.proofs.{Common.{ℕ, ◌∙◌, ◌≡◌, ap, IfOk, List, map, refl, subst}, Runs.sources-reversed}
use Rattle.wsm_schema.proofs.card_lists.Lists.syncs_into.Goals as goal

pub returns : goal.returns
returns c =
    let rows = c.rows_with.ensures ∙ c.self.invariant.same c.args.node in
    subst (λ (ns : List ℕ). IfOk c.seconds_of.result (λ new. new ≡ ns))
    (ap (map (λ (r : ℕ × ℕ). r.1)) rows ∙ sources-reversed c.args.node c.self.inside.schema.now.syncs ∙ rw c.self.view_is refl)
    c.seconds_of.ensures

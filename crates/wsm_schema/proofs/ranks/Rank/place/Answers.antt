use Rattle.wsm_schema.proofs.{Common.{ℕ, ◌∙◌, ap, eqb, List, option_copied, option_map, position_from, rows_with, slice_get, sym}, Runs.place-placed}
use Rattle.wsm_schema.proofs.ranks.Rank.place.Goals as goal

pub returns-in-None : goal.returns-in-None
returns-in-None c =
    let first = ap (λ rows. slice_get rows 0) (sym (c.self.invariant.same c.args.node)) ∙ ap (λ (rs : List (ℕ × ℕ)). slice_get (rows_with c.args.node rs) 0) (sym c.deref.ensures) ∙ sym c.first_with.ensures ∙ ap option_copied c.in-None.is in
    ap (option_map (λ (r : ℕ × ℕ). r.1)) (sym first) ∙ place-placed c.args.node 0 c.self.inside.list.items
    ∙ ap (λ (ns : List ℕ). position_from (λ k. eqb k c.args.node) 0 ns) c.self.view_is

pub returns-in-Some : goal.returns-in-Some
returns-in-Some c =
    let first = ap (λ rows. slice_get rows 0) (sym (c.self.invariant.same c.args.node)) ∙ ap (λ (rs : List (ℕ × ℕ)). slice_get (rows_with c.args.node rs) 0) (sym c.deref.ensures) ∙ sym c.first_with.ensures ∙ ap option_copied c.in-Some.is in
    ap (option_map (λ (r : ℕ × ℕ). r.1)) (sym first) ∙ place-placed c.args.node 0 c.self.inside.list.items
    ∙ ap (λ (ns : List ℕ). position_from (λ k. eqb k c.args.node) 0 ns) c.self.view_is

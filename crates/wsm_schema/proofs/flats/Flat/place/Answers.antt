use Rattle.wsm_schema.proofs.{Common.{ℕ, ◌∙◌, ap, eqb, FlatModel, List, option_map, position_from, rows_with, slice_get}, Runs.place-numbered}
use Rattle.wsm_schema.proofs.flats.Flat.place.Goals as goal

pub returns : goal.returns
returns c =
    c.place_in.ensures ∙ ap (λ (rs : List (ℕ × ℕ)). option_map (λ (r : ℕ × ℕ). r.1) (slice_get (rows_with c.args.node rs) 0)) c.deref.ensures
    ∙ ap (λ rows. option_map (λ (r : ℕ × ℕ). r.1) (slice_get rows 0)) (c.self.invariant.placed.same c.args.node)
    ∙ place-numbered c.args.node 0 c.self.inside.cards.items
    ∙ ap (λ (f : FlatModel). position_from (λ d. eqb d.node c.args.node) 0 f.cards) c.self.view_is

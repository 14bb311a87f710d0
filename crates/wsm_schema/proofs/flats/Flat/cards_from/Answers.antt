use Rattle.wsm_schema.proofs.{Common.{ℕ, ◌∙◌, ◌≡◌, ap, arith, drop, eqb, FlatModel, length, map, Option, position_from, Some, sym, take_rest}, FromPlace.{none-from, cards-from, node_of, there}}
use Rattle.wsm_schema.proofs.flats.Flat.cards_from.Goals as goal

pub offset_bounds-deref-place : goal.offset_bounds-deref-place
offset_bounds-deref-place c =
    let found = there c.args.node c.in-Some.place c.args.self.now.cards c.deref.result.now (sym c.place.ensures ∙ c.in-Some.is) (c.deref.ensures.value ∙ ap (λ (f : FlatModel). f.cards) c.self.view_is) in
    omega (arith, found.0)

pub slice_bounds-result-count : goal.slice_bounds-result-count
slice_bounds-result-count c =
    let found = there c.args.node c.in-Some.place c.args.self.now.cards c.deref.result.now (sym c.place.ensures ∙ c.in-Some.is) (c.deref.ensures.value ∙ ap (λ (f : FlatModel). f.cards) c.self.view_is) in
    omega (arith, found.0)

pub slice_bounds-result-start : goal.slice_bounds-result-start
slice_bounds-result-start c =
    let found = there c.args.node c.in-Some.place c.args.self.now.cards c.deref.result.now (sym c.place.ensures ∙ c.in-Some.is) (c.deref.ensures.value ∙ ap (λ (f : FlatModel). f.cards) c.self.view_is) in
    omega (arith, found.0)

pub returns-in-None : goal.returns-in-None
returns-in-None c = none-from c.args.node c.args.self.now.cards (sym c.place.ensures ∙ c.in-None.is)

pub returns-in-Some : goal.returns-in-Some
returns-in-Some c =
    let found = there c.args.node c.in-Some.place c.args.self.now.cards c.deref.result.now (sym c.place.ensures ∙ c.in-Some.is) (c.deref.ensures.value ∙ ap (λ (f : FlatModel). f.cards) c.self.view_is) in
    ap (map node_of) (take_rest c.deref.result.now c.in-Some.place) ∙ found.1

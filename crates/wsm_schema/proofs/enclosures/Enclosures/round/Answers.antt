use Rattle.wsm_schema.proofs.{Common.{◌<◌, ◌∙◌, ◌≡◌, ap, cards_of, eqb, FlatModel, get_or, length, nodes_of, None, parts_round, position_from, SchemaModel, Some, subst, sym}, Runs.{node-placed, node-not_placed}, EnclosureWalk.absent-round}
use Rattle.wsm_schema.proofs.enclosures.Enclosures.round.Goals as goal

pub round_at-requires : goal.round_at-requires
round_at-requires c =
    let there : position_from (λ d. eqb d.node c.args.node) 0 (cards_of c.self.inside.schema.now) ≡ Some c.in-Some.place =
    ap (λ (f : FlatModel). position_from (λ d. eqb d.node c.args.node) 0 f.cards) (sym c.self.invariant.flat_is) ∙ sym c.place.ensures ∙ c.in-Some.is in
    subst (λ (v : SchemaModel). c.in-Some.place < length (cards_of v)) c.self.view_is (node-placed c.args.node (cards_of c.self.inside.schema.now) c.in-Some.place there).0

pub returns-in-Some-clause-blocks : goal.returns-in-Some-clause-blocks
returns-in-Some-clause-blocks c =
    let there : position_from (λ d. eqb d.node c.args.node) 0 (cards_of c.self.inside.schema.now) ≡ Some c.in-Some.place =
    ap (λ (f : FlatModel). position_from (λ d. eqb d.node c.args.node) 0 f.cards) (sym c.self.invariant.flat_is) ∙ sym c.place.ensures ∙ c.in-Some.is in
    let node : get_or (nodes_of (cards_of c.args.self.now)) c.in-Some.place 0 ≡ c.args.node =
    subst (λ (v : SchemaModel). get_or (nodes_of (cards_of v)) c.in-Some.place 0 ≡ c.args.node) c.self.view_is (node-placed c.args.node (cards_of c.self.inside.schema.now) c.in-Some.place there).1 in
    c.round_at.ensures.blocks ∙ ap (parts_round c.args.self.now.body) node

pub returns-in-None-clause-blocks : goal.returns-in-None-clause-blocks
returns-in-None-clause-blocks c =
    let none : position_from (λ d. eqb d.node c.args.node) 0 (cards_of c.self.inside.schema.now) ≡ None =
    ap (λ (f : FlatModel). position_from (λ d. eqb d.node c.args.node) 0 f.cards) (sym c.self.invariant.flat_is) ∙ sym c.place.ensures ∙ c.in-None.is in
    sym (absent-round c.self.inside.schema.now c.self.invariant.distinct c.args.node (node-not_placed c.args.node 0 (cards_of c.self.inside.schema.now) none))
    ∙ ap (λ (v : SchemaModel). parts_round v.body c.args.node) c.self.view_is

use Rattle.wsm_schema.proofs.{Common.{[], ◌∙◌, ◌≡◌, ap, cards_of, FlatModel, nodes_of, None, parts_of, schema_walk, SchemaModel, sym, twice}, EnclosureWalk.walked}
use Rattle.wsm_schema.proofs.enclosures.Enclosures.of.Goals as goal

pub invariant_of-result : goal.invariant_of-result
invariant_of-result c =
    let s : SchemaModel = c.args.schema.now in
    let distinct : twice [] (nodes_of (cards_of s)) ≡ None = ap (λ (f : FlatModel). twice [] (nodes_of f.cards)) (sym c.requires.flat) ∙ c.requires.distinct in
    let body : parts_of c.deref.result.now ≡ s.body = ap parts_of c.deref.ensures.value ∙ ap (λ (v : SchemaModel). v.body) c.schema.view_is in
    record {
      flat_is = c.requires.flat;
      distinct = distinct;
      each = c.in_ok-blocks.ensures ∙ ap schema_walk body ∙ walked s distinct;
    }

use Rattle.wsm_data.proofs.{Common.{[], ◌∙◌, ap, Ascends, both, FlatModel, nodes_of, SchemaModel, subst, sym, twice, WritesInOrder}, Firsts.distinct-nodes, Writers.{nothing-written, writes-ascend}}
use Rattle.wsm_data.proofs.parallels.parallel_writes.Goals as goal

pub returns-then-is_empty : goal.returns-then-is_empty
returns-then-is_empty c = nothing-written c.args.schema.now (ap (λ (m : SchemaModel). m.writes) (sym c.schema.view_is) ∙ c.is_empty.ensures.0 c.if-is_empty.true)

pub of-requires-clause-distinct : goal.of-requires-clause-distinct
of-requires-clause-distinct c = ap (λ (f : FlatModel). twice [] (nodes_of f.cards)) c.requires.flat ∙ distinct-nodes c.args.schema.now c.requires.blocks

pub first_parallel-requires-clause-order : goal.first_parallel-requires-clause-order
first_parallel-requires-clause-order c =
    let order : Ascends both c.args.schema.now.writes = subst (Ascends both) (c.as_slice.ensures.rows ∙ ap (λ (m : SchemaModel). m.writes) c.schema.view_is) c.as_slice.ensures.ascends in
    subst WritesInOrder (sym (c.cards.ensures ∙ ap (λ (f : FlatModel). f.cards) c.requires.flat)) (writes-ascend c.args.schema.now order)

use Rattle.wsm_block.proofs.{Common.{[], ◌∙◌, ap, FlatModel, nodes_of, sym, twice}, FirstFault.tree-distinct, FrontOrders.none-of}
use Rattle.wsm_block.proofs.faults.shape_fault.Goals as goal

pub sync_fault-requires-clause-distinct : goal.sync_fault-requires-clause-distinct
sync_fault-requires-clause-distinct c =
    ap (λ (f : FlatModel). twice [] (nodes_of f.cards)) c.requires
    ∙ tree-distinct c.args.schema.now (sym c.in_ok-fault.ensures ∙ none-of c.in_ok-fault.fault (sym c.is_some.ensures ∙ c.if-is_some.false))

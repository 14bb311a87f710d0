use Rattle.wsm_block.proofs.{Common.{◌+◌, ◌∙◌, ◌∷◌, ap, drop, drop_all, get_or, IfSome, if◌then◌else◌, is_none, is_one_of, IsOrder, length, onto_seen, SameNodes, Some, subst, sym, sync_cycle}, Growing.{cycle-next, ends-among, onto-next}}
use Rattle.std.proofs.lemmas.List.{take_all}
use Rattle.wsm_schema.specs.declared.faults.BlockFault.TheVariants.{SyncCycle}
use Rattle.wsm_block.proofs.growth.grown_from.Goals as goal

pub with_edge-requires-clause-source : goal.with_edge-requires-clause-source
with_edge-requires-clause-source c =
    (ends-among c.args.nodes.items c.loop-edge.nodes.items c.deref-in-loop-edge.result.now c.args.syncs.now c.loop-edge.edge-index (0, 0) c.requires.ends c.loop-edge.invariant.same c.deref-in-loop-edge.ensures.value c.loop-edge-test.true).0

pub with_edge-requires-clause-target : goal.with_edge-requires-clause-target
with_edge-requires-clause-target c =
    (ends-among c.args.nodes.items c.loop-edge.nodes.items c.deref-in-loop-edge.result.now c.args.syncs.now c.loop-edge.edge-index (0, 0) c.requires.ends c.loop-edge.invariant.same c.deref-in-loop-edge.ensures.value c.loop-edge-test.true).1

pub returns-in-None-clause-fault : goal.returns-in-None-clause-fault
returns-in-None-clause-fault c =
    let i = c.loop-edge.invariant in
    sym i.rest
    ∙ cycle-next (length c.args.nodes.items) c.loop-edge.edges.items c.deref.result.now c.loop-edge.nodes.items c.deref-in-loop-edge.result.now c.args.syncs.now c.loop-edge.edge-index (0, 0) (is_none c.in_ok-new.field-0) c.loop-edge-test.true c.deref.ensures.value c.deref-in-loop-edge.ensures.value i.same.size c.in_ok-new.ensures.cycle
    ∙ ap (λ o. if is_none o then Some (SyncCycle (get_or c.args.syncs.now c.loop-edge.edge-index (0, 0)).0 (get_or c.args.syncs.now c.loop-edge.edge-index (0, 0)).1) else sync_cycle (length c.args.nodes.items) (get_or c.args.syncs.now c.loop-edge.edge-index (0, 0) ∷ c.loop-edge.edges.items) (drop (c.loop-edge.edge-index + 1) c.args.syncs.now)) c.in-None.is

pub loop-edge-preserved : goal.loop-edge-preserved
loop-edge-preserved c =
    let i = c.loop-edge.invariant in
    let order : IsOrder (get_or c.args.syncs.now c.loop-edge.edge-index (0, 0) ∷ c.deref.result.now) c.in-Some.new.items =
    subst (λ o. IfSome o (λ new. IsOrder (get_or c.args.syncs.now c.loop-edge.edge-index (0, 0) ∷ c.deref.result.now) new.items)) c.in-Some.is c.in_ok-new.ensures.order in
    let same : SameNodes c.in-Some.new.items c.deref-in-loop-edge.result.now = subst (λ o. IfSome o (λ new. SameNodes new.items c.deref-in-loop-edge.result.now)) c.in-Some.is c.in_ok-new.ensures.same in
    record {
      order = subst (λ es. IsOrder es c.in-Some.new.items) (ap (λ es. get_or c.args.syncs.now c.loop-edge.edge-index (0, 0) ∷ es) c.deref.ensures.value ∙ sym c.in_ok-put_first.ensures) order;
      same = record {
        size = same.size ∙ ap length c.deref-in-loop-edge.ensures.value ∙ i.same.size;
        members = λ n. same.members n ∙ ap (λ ns. is_one_of n ns) c.deref-in-loop-edge.ensures.value ∙ i.same.members n;
      };
      edges = c.in_ok-put_first.ensures ∙ ap (λ es. get_or c.args.syncs.now c.loop-edge.edge-index (0, 0) ∷ es) i.edges ∙ sym (onto-next c.args.syncs.now c.args.edges.items c.loop-edge.edge-index (0, 0) c.loop-edge-test.true);
      rest = ap (λ es. sync_cycle (length c.args.nodes.items) es (drop (c.loop-edge.edge-index + 1) c.args.syncs.now)) c.in_ok-put_first.ensures
          ∙ sym (
          cycle-next (length c.args.nodes.items) c.loop-edge.edges.items c.deref.result.now c.loop-edge.nodes.items c.deref-in-loop-edge.result.now c.args.syncs.now c.loop-edge.edge-index (0, 0) (is_none c.in_ok-new.field-0) c.loop-edge-test.true c.deref.ensures.value c.deref-in-loop-edge.ensures.value i.same.size c.in_ok-new.ensures.cycle
          ∙ ap (λ o. if is_none o then Some (SyncCycle (get_or c.args.syncs.now c.loop-edge.edge-index (0, 0)).0 (get_or c.args.syncs.now c.loop-edge.edge-index (0, 0)).1) else sync_cycle (length c.args.nodes.items) (get_or c.args.syncs.now c.loop-edge.edge-index (0, 0) ∷ c.loop-edge.edges.items) (drop (c.loop-edge.edge-index + 1) c.args.syncs.now)) c.in-Some.is
          )
          ∙ i.rest;
    }

pub returns-clause-none : goal.returns-clause-none
returns-clause-none c =
    sym c.loop-edge.invariant.rest ∙ ap (sync_cycle (length c.args.nodes.items) c.loop-edge.edges.items) (drop_all c.loop-edge.edge-index c.args.syncs.now c.loop-edge-test.false)

pub returns-clause-order : goal.returns-clause-order
returns-clause-order c =
    let i = c.loop-edge.invariant in
    subst (IsOrder (onto_seen c.args.syncs.now c.args.edges.items)) (sym c.in_ok-from_vec.ensures)
    (subst (λ es. IsOrder es c.loop-edge.nodes.items) (i.edges ∙ ap (λ es. onto_seen es c.args.edges.items) (take_all c.loop-edge.edge-index c.args.syncs.now c.loop-edge-test.false)) i.order)

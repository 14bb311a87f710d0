use Rattle.wsm_block.proofs.{Common.{ℕ, ◌∙◌, ◌≡◌, ap, Card, control_edges, cycle_in, Edges, IfErr, IfOk, IsBlockFault, IsOrder, length, List, None, onto_seen, subst, sym, sync_cycle, take}, FrontOrders.{rest-onto, rest-cycle}}
use Rattle.wsm_block.proofs.growth.grown_rank.Goals as goal

-- what the edges of the front are, and what stands behind them
module _ (c : goal.After-drop-control-2) where
  abbrev cards : List Card
  cards = c.args.flat.now.cards

  abbrev count : ℕ
  count = c.in_ok-front.front.count

  abbrev begun : Edges
  begun = onto_seen (take count c.args.syncs.now) (control_edges cards)

  edges-are : c.in_ok-edges.edges.items ≡ begun
  edges-are =
      c.in_ok-edges.ensures ∙ ap (λ es. onto_seen es c.deref-2.result.now) c.split_at.ensures.front
      ∙ ap (onto_seen (take count c.args.syncs.now)) (c.deref-2.ensures.value ∙ c.in_ok-control.ensures ∙ ap control_edges c.cards-2.ensures)

  order : IsOrder c.in_ok-edges.edges.items c.in_ok-front.front.nodes.items
  order =
      subst (λ es. IsOrder es c.in_ok-front.front.nodes.items) (sym edges-are)
      (subst (λ es. IsOrder (onto_seen (take count c.args.syncs.now) es) c.in_ok-front.front.nodes.items) (c.deref.ensures.value ∙ c.in_ok-control.ensures ∙ ap control_edges c.cards-2.ensures)
      c.in_ok-front.ensures.order)

  cycle : sync_cycle (length c.in_ok-front.front.nodes.items) c.in_ok-edges.edges.items c.split_at.result.1.now ≡ cycle_in cards c.args.syncs.now
  cycle =
      rest-cycle cards c.args.syncs.now c.in_ok-edges.edges.items c.split_at.result.1.now count c.in_ok-front.front.nodes.items edges-are c.split_at.ensures.back order
      c.in_ok-front.ensures.same

pub returns-clause-none : goal.returns-clause-none
returns-clause-none c = subst (λ fault. IfOk c.grown_from.result (λ rank. fault ≡ None)) (cycle c) c.grown_from.ensures.none

pub returns-clause-order : goal.returns-clause-order
returns-clause-order c =
    subst (λ es. IfOk c.grown_from.result (λ rank. IsOrder es rank))
    (rest-onto (cards c) c.args.syncs.now c.in_ok-edges.edges.items c.split_at.result.1.now (count c) c.in_ok-front.front.nodes.items (edges-are c) c.split_at.ensures.back)
    c.grown_from.ensures.order

pub returns-clause-fault : goal.returns-clause-fault
returns-clause-fault c = subst (λ fault. IfErr c.grown_from.result (λ refusal. IsBlockFault fault refusal)) (cycle c) c.grown_from.ensures.fault

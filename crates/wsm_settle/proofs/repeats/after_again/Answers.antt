use Rattle.wsm_settle.proofs.{Common.{[], ℕ, ◌∙◌, ◌≡◌, ap, both_ways, freed_rows, is_one_of, List, loop_nodes, refl, RepeatsRight, subst, sym}, Begins.{of-loop, repeats-few, repeats-right}, Handing.handed-within, Results.if_ok}
use Rattle.wsm_settle.proofs.repeats.after_again.Goals as goal

pub walk-requires : goal.walk-requires
walk-requires g c = record {
  within =
      handed-within c.args.rank.now 0 (λ k. is_one_of k (loop_nodes c.args.flat.now.cards c.args.node)) [] c.hand_to.new.pending.keys
      (of-loop c.args.flat.now c.args.rank.now c.args.node c.as_slice-nodes.result.now c.in_ok-pending.pending.keys c.hand_to.new.pending.keys (c.as_slice-nodes.ensures ∙ c.in_ok-body.ensures) c.in_ok-pending.ensures c.in_ok-hand_to.ensures.handed)
      (λ q none. absurd (both_ways _ refl none));
}

pub returns-in_err-walk-clause-few : goal.returns-in_err-walk-clause-few
returns-in_err-walk-clause-few g c =
    repeats-few c.args.flat.now c.args.rank.now c.args.node (g.M.MarkReads.reads c.args.marks.now) (g.M.MarkReads.reads c.walk.new.marks) c.hand_to.new.pending.keys
    (of-loop c.args.flat.now c.args.rank.now c.args.node c.as_slice-nodes.result.now c.in_ok-pending.pending.keys c.hand_to.new.pending.keys (c.as_slice-nodes.ensures ∙ c.in_ok-body.ensures) c.in_ok-pending.ensures c.in_ok-hand_to.ensures.handed)
    c.walk.ensures.few

pub returns-clause-few : goal.returns-clause-few
returns-clause-few g c =
    repeats-few c.args.flat.now c.args.rank.now c.args.node (g.M.MarkReads.reads c.args.marks.now) (g.M.MarkReads.reads c.walk.new.marks) c.hand_to.new.pending.keys
    (of-loop c.args.flat.now c.args.rank.now c.args.node c.as_slice-nodes.result.now c.in_ok-pending.pending.keys c.hand_to.new.pending.keys (c.as_slice-nodes.ensures ∙ c.in_ok-body.ensures) c.in_ok-pending.ensures c.in_ok-hand_to.ensures.handed)
    c.walk.ensures.few

pub returns-clause-changes : goal.returns-clause-changes
returns-clause-changes g c =
    let kept = g.M.MarkReads.kept c.args.marks.now in
    let begun : c.in_ok-changes.changes ≡ freed_rows c.args.node c.args.position (loop_nodes c.args.flat.now.cards c.args.node) [] =
    c.in_ok-changes.ensures ∙ ap (λ (ns : List ℕ). freed_rows c.args.node c.args.position ns []) (c.as_slice-nodes.ensures ∙ c.in_ok-body.ensures) in
    let right =
    repeats-right c.args.flat.now c.args.rank.now kept c.args.node c.args.position c.in_ok-changes.changes c.walk.new.changes c.hand_to.new.pending.keys begun
    (of-loop c.args.flat.now c.args.rank.now c.args.node c.as_slice-nodes.result.now c.in_ok-pending.pending.keys c.hand_to.new.pending.keys (c.as_slice-nodes.ensures ∙ c.in_ok-body.ensures) c.in_ok-pending.ensures c.in_ok-hand_to.ensures.handed)
    c.in_ok-walk.ensures.walked in
    if_ok _ (RepeatsRight c.args.flat.now c.args.rank.now kept c.args.node c.args.position)
    (λ changes is. subst (RepeatsRight c.args.flat.now c.args.rank.now kept c.args.node c.args.position) (sym is) right) c.into_table.result c.into_table.ensures

use Rattle.wsm_ops.proofs.{Common.{act, ap, at_gap, is_node, IsOnce, not, put_at, SchemaModel, subst, sym, without}, DraftEdits.moved-made, OncePieces.{once-in, once-left}}
use Rattle.wsm_ops.specs.declared.operations.Gap.TheVariants.{After}
use Rattle.wsm_ops.proofs.effects.moved.Goals as goal

pub without-rest-requires : goal.without-rest-requires
without-rest-requires c = once-in c.draft.inside.start c.draft.inside.finish c.draft.inside.outline c.draft.invariant (After c.args.node)

pub put-requires : goal.put-requires
put-requires c =
    subst (IsOnce (at_gap c.args.gap)) (sym c.without-rest.ensures)
    (once-left (at_gap c.args.gap) (λ p. not (is_node c.args.node p)) c.draft.inside.outline (once-in c.draft.inside.start c.draft.inside.finish c.draft.inside.outline c.draft.invariant c.args.gap))

pub invariant_of-draft : goal.invariant_of-draft
invariant_of-draft c =
    let made = moved-made _ c.args.draft c.draft.view_is c.draft.inside.outline c.in_ok-draft-inside.field-0 c.draft.invariant.0 c.draft.invariant.1 c.args.node c.args.gap c.without-rest.result c.requires c.without-rest.ensures c.in_ok-draft-inside.ensures in
    made.0

pub returns : goal.returns
returns c =
    let made = moved-made _ c.args.draft c.draft.view_is c.draft.inside.outline c.in_ok-draft-inside.field-0 c.draft.invariant.0 c.draft.invariant.1 c.args.node c.args.gap c.without-rest.result c.requires c.without-rest.ensures c.in_ok-draft-inside.ensures in
    rw made.1 (ap (λ (s : SchemaModel). put_at c.args.gap (act c.args.node) (record s { body = without c.args.node s.body })) c.draft.view_is)

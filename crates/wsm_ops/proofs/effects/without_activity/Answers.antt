use Rattle.wsm_ops.proofs.{Common.{ap, SchemaModel, without}, DraftEdits.without-made, OncePieces.once-in}
use Rattle.wsm_ops.specs.declared.operations.Gap.TheVariants.{After}
use Rattle.wsm_ops.proofs.effects.without_activity.Goals as goal

pub without-requires : goal.without-requires
without-requires c = once-in c.draft.inside.start c.draft.inside.finish c.draft.inside.outline c.draft.invariant (After c.args.node)

pub invariant_of-draft : goal.invariant_of-draft
invariant_of-draft c =
    let made = without-made _ c.args.draft c.draft.view_is c.draft.inside.outline c.without.result c.draft.invariant.0 c.draft.invariant.1 c.args.node c.requires c.without.ensures in
    made.0

pub returns : goal.returns
returns c =
    let made = without-made _ c.args.draft c.draft.view_is c.draft.inside.outline c.without.result c.draft.invariant.0 c.draft.invariant.1 c.args.node c.requires c.without.ensures in
    rw made.1 (ap (λ (s : SchemaModel). record s { body = without c.args.node s.body }) c.draft.view_is)

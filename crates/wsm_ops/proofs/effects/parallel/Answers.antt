use Rattle.wsm_ops.proofs.{Common.{◌≡◌, ap, beside, change, IfOk, SchemaModel, subst, with_role}, DraftEdits.{wrap-made, opened-once}, OncePieces.once-in}
use Rattle.wsm_ops.specs.declared.operations.Gap.TheVariants.{After}
use Rattle.wsm_ops.proofs.effects.parallel.Goals as goal

pub put-requires-clause-first : goal.put-requires-clause-first
put-requires-clause-first c = once-in c.draft.inside.start c.draft.inside.finish c.draft.inside.outline c.draft.invariant (After c.args.wrap.now.first)

pub put-requires-clause-last : goal.put-requires-clause-last
put-requires-clause-last c =
    let w = c.args.wrap.now in
    opened-once _ c.args.draft c.draft.view_is c.draft.inside.outline c.draft.invariant.0 c.draft.invariant.1 w.node c.args.role w.split w.join w.first w.last c.requires

pub invariant_of-draft : goal.invariant_of-draft
invariant_of-draft c =
    let w = c.args.wrap.now in
    let made = wrap-made _ c.args.draft c.draft.view_is c.draft.inside.outline c.in_ok-draft-inside.field-0 c.draft.invariant.0 c.draft.invariant.1 w.node c.args.role w.split w.join w.first w.last c.requires c.in_ok-draft-inside.ensures in
    made.0

pub returns : goal.returns
returns c =
    let w = c.args.wrap.now in
    let made = wrap-made _ c.args.draft c.draft.view_is c.draft.inside.outline c.in_ok-draft-inside.field-0 c.draft.invariant.0 c.draft.invariant.1 w.node c.args.role w.split w.join w.first w.last c.requires c.in_ok-draft-inside.ensures in
    subst (λ (d : SchemaModel). IfOk c.with_role.result (λ s. s ≡ with_role w.node c.args.role d))
    (rw made.1 (ap (λ (s : SchemaModel). record s { body = change (w.first, w.last) (beside w.node w.split w.join) s.body }) c.draft.view_is))
    c.with_role.ensures

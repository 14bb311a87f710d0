use Rattle.wsm_ops.proofs.{Common.{ap, new_part, put_at}, DraftEdits.put-made, OncePieces.once-in}
use Rattle.wsm_ops.proofs.effects.put_at.Goals as goal

pub put-requires : goal.put-requires
put-requires c = once-in c.draft.inside.start c.draft.inside.finish c.draft.inside.outline c.draft.invariant c.args.gap

pub invariant_of-draft : goal.invariant_of-draft
invariant_of-draft c =
    let made = put-made _ c.args.draft c.draft.view_is c.draft.inside.outline c.in_ok-draft-inside.field-0 c.draft.invariant.0 c.draft.invariant.1 c.args.gap c.args.new c.requires c.in_ok-draft-inside.ensures in
    made.0

pub returns : goal.returns
returns c =
    let made = put-made _ c.args.draft c.draft.view_is c.draft.inside.outline c.in_ok-draft-inside.field-0 c.draft.invariant.0 c.draft.invariant.1 c.args.gap c.args.new c.requires c.in_ok-draft-inside.ensures in
    rw made.1 (ap (put_at c.args.gap (new_part c.args.new)) c.draft.view_is)

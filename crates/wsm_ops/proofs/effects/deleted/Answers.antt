use Rattle.wsm_ops.proofs.Common.{ℕ, ◌||◌, ◌≡◌, effect, IfOk, refl, SchemaModel, subst, with_role, without}
use Rattle.std.proofs.Common.{◌==◌, not, filter}
use Rattle.wsm_ops.specs.declared.operations.Op.TheVariants as op
use Rattle.wsm_ops.proofs.effects.deleted.Goals as goal

-- one part after another
in_turn : (n : ℕ) (s treeless unsynced unread unwritten : SchemaModel) →
    treeless ≡ record s { body = without n s.body } →
    unsynced ≡ record treeless { syncs = filter (λ e. not (e.0 == n || e.1 == n)) treeless.syncs } →
    unread ≡ record unsynced { reads = filter (λ r. not (r.0 == n)) unsynced.reads } →
    unwritten ≡ record unread { writes = filter (λ w. not (w.0 == n)) unread.writes } →
    with_role n 0 unwritten ≡ effect s (op.DeleteActivity n)
in_turn n s treeless unsynced unread unwritten a b c d = rw (d, c, b, a) refl

pub returns : goal.returns
returns c =
    subst (λ s. IfOk c.with_role.result (λ new. new ≡ s))
    (in_turn c.args.node c.args.draft c.without_activity-draft.result c.in_ok-draft.draft c.in_ok-draft-2.draft c.in_ok-draft-3.draft
    c.without_activity-draft.ensures c.in_ok-draft.ensures c.in_ok-draft-2.ensures c.in_ok-draft-3.ensures)
    c.with_role.ensures

-- The state and the choice of a node, by its kind and its mark.
use Rattle.std.specs.Prelude.{None, ℕ, is_some, if◌then◌else◌}
use Rattle.wsm_schema.specs.{Rules.{spot, state_by}, declared.cards.NodeKind.NodeKind, declared.marks.Mark.Mark, declared.states.Spot.Spot}
use Rattle.wsm_schema.specs.declared.states.State.TheVariants.{Running, Completed}
use Rattle.wsm_marks.specs.Timed.{flow, verdict_of}
use Rattle.wsm_walk.specs.Kept.{timed_of}

abbrev pub mark_spot : NodeKind → ℕ → Mark → Spot
mark_spot kind n k =
    if is_some k.ended then spot n Completed k.choice
    else (if is_some k.started then spot n Running None else spot n (state_by kind (verdict_of (flow (timed_of k)))) None)

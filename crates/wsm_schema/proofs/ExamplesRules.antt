-- Signals, the node rule and the settled net.
use Rattle.wsm_schema.proofs.{Common.{[], ◌∷◌, ◌≡◌, cards_of, judge_of, marking_of, None, refl, SchemaModel, settle, signal_of, Some, spot, Spots}, ExampleSchemas.{skip, waiting_for_skipped, parallel}}
use Rattle.wsm_schema.specs.declared.cards.NodeKind.TheVariants as node
use Rattle.wsm_schema.specs.declared.states.Flow.TheVariants.{Yes, No}
use Rattle.wsm_schema.specs.declared.states.State.TheVariants.{NotActivated, Activated, Running, Completed, Skipped}
use Rattle.wsm_schema.specs.declared.states.Verdict.TheVariants as verdict

pub a_chosen_edge : signal_of node.XorSplit Completed (Some 1) (Some 1) ≡ Some Yes
a_chosen_edge = refl

pub another_edge : signal_of node.XorSplit Completed (Some 1) (Some 0) ≡ Some No
another_edge = refl

pub a_skipped_source : signal_of node.Activity Skipped None None ≡ Some No
a_skipped_source = refl

pub a_running_source : signal_of node.Activity Running None None ≡ None
a_running_source = refl

-- an XOR join waits for all of its edges, and takes exactly one
pub a_join_waits : judge_of node.XorJoin (Some Yes ∷ None ∷ []) [] ≡ verdict.Waiting
a_join_waits = refl

pub a_join_goes_on : judge_of node.XorJoin (Some Yes ∷ Some No ∷ []) [] ≡ verdict.Ready
a_join_goes_on = refl

-- a sync edge that signals false doesn't skip its target; one that signals nothing holds it back
pub a_sync_edge_from_a_skipped_node : judge_of node.Activity (Some Yes ∷ []) (Some No ∷ []) ≡ verdict.Ready
a_sync_edge_from_a_skipped_node = refl

pub an_open_sync_edge : judge_of node.Activity (Some Yes ∷ []) (None ∷ []) ≡ verdict.Waiting
an_open_sync_edge = refl

pub skipping_waits_for_no_sync_edge : judge_of node.Activity (Some No ∷ []) (None ∷ []) ≡ verdict.Skipped
skipping_waits_for_no_sync_edge = refl

-- the marking of a schema where these nodes were started or ended
abbrev marking : SchemaModel → Spots → Spots
marking s begun = marking_of (cards_of s) (settle (cards_of s) begun)

pub before_all : marking skip [] ≡
    spot 0 Completed None ∷ spot 1 NotActivated None ∷ spot 2 Activated None ∷ spot 3 NotActivated None ∷ spot 4 NotActivated None ∷ spot 5 NotActivated None ∷ []
before_all = refl

-- the branch that wasn't chosen is skipped, and what stands behind the join goes on
pub a_skipped_branch : marking skip (spot 2 Completed (Some 0) ∷ []) ≡
    spot 0 Completed None ∷ spot 1 NotActivated None ∷ spot 2 Completed (Some 0) ∷ spot 3 Completed None ∷ spot 4 Skipped None ∷ spot 5 Activated None ∷ []
a_skipped_branch = refl

pub a_taken_branch : marking skip (spot 2 Completed (Some 1) ∷ []) ≡
    spot 0 Completed None ∷ spot 1 NotActivated None ∷ spot 2 Completed (Some 1) ∷ spot 3 NotActivated None ∷ spot 4 Activated None ∷ spot 5 NotActivated None ∷ []
a_taken_branch = refl

-- a node waits for the source of its sync edge, and goes on where that is skipped
pub a_waiting_node : marking waiting_for_skipped [] ≡
    spot 0 Completed None ∷ spot 1 NotActivated None ∷ spot 2 Completed None ∷ spot 3 NotActivated None ∷ spot 4 Activated None ∷ spot 5 NotActivated None ∷ spot 6 NotActivated None ∷ spot 7 NotActivated None ∷ []
a_waiting_node = refl

pub after_the_skip : marking waiting_for_skipped (spot 4 Completed (Some 0) ∷ []) ≡
    spot 0 Completed None ∷ spot 1 NotActivated None ∷ spot 2 Completed None ∷ spot 3 NotActivated None ∷ spot 4 Completed (Some 0) ∷ spot 5 Completed None ∷ spot 6 Skipped None ∷ spot 7 Activated None ∷ []
after_the_skip = refl

-- an AND join waits for both of its branches
pub one_of_two_branches : marking parallel (spot 4 Completed None ∷ spot 5 Running None ∷ []) ≡
    spot 0 Completed None ∷ spot 1 NotActivated None ∷ spot 2 Completed None ∷ spot 3 NotActivated None ∷ spot 4 Completed None ∷ spot 5 Running None ∷ []
one_of_two_branches = refl

pub both_branches : marking parallel (spot 4 Completed None ∷ spot 5 Completed None ∷ []) ≡
    spot 0 Completed None ∷ spot 1 Completed None ∷ spot 2 Completed None ∷ spot 3 Completed None ∷ spot 4 Completed None ∷ spot 5 Completed None ∷ []
both_branches = refl

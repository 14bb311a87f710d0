-- Signals of edges, the node rule, and the settled net.
use Rattle.std.specs.{Prelude.{ℕ, Bool, true, false, ◌&&◌, not, List, [], ◌∷◌, map, length, Option, Some, None, is_some, ◌==◌, if◌then◌else◌}, List.{list_all, count_by, fold}, Fn.iterate}
use Rattle.wsm_schema.specs.{Flat.card_at, Kinds.{is_xor_split, worked_on}, declared.cards.Card.Card, declared.cards.End.End, declared.cards.NodeKind.NodeKind, declared.states.State.State, declared.states.Spot.Spot}
use Rattle.wsm_schema.specs.{declared.states.Flow.Flow, declared.states.Verdict.Verdict}
use Rattle.wsm_schema.specs.declared.cards.NodeKind.TheVariants.{Start, XorJoin}
use Rattle.wsm_schema.specs.declared.states.State.TheVariants.{NotActivated, Activated, Running, Completed, Skipped}
use Rattle.wsm_lists.specs.Rows.{put_row}
use Rattle.wsm_schema.specs.declared.states.Flow.TheVariants.{Yes, No}
use Rattle.wsm_schema.specs.declared.states.Verdict.TheVariants as verdict

-- whether a label was chosen; an edge with no label always is
abbrev pub is_chosen : Option ℕ → Option ℕ → Bool
is_chosen choice None = true
is_chosen None (Some label) = false
is_chosen (Some code) (Some label) = code == label

-- what an edge signals, by its source, the source's state and choice, and the edge's label
abbrev pub signal_of : NodeKind → State → Option ℕ → Option ℕ → Option Flow
signal_of kind Completed choice label = Some (if is_xor_split kind && not (is_chosen choice label) then No else Yes)
signal_of kind Skipped choice label = Some No
signal_of kind _ choice label = None

-- whether an edge signals true
abbrev pub is_yes : Option Flow → Bool
is_yes (Some Yes) = true
is_yes _ = false

-- whether an edge signals false
abbrev pub is_no : Option Flow → Bool
is_no (Some No) = true
is_no _ = false

-- whether the signals of the control edges into a node make it ready
abbrev pub is_ready : NodeKind → List (Option Flow) → Bool
is_ready Start control = true
is_ready XorJoin control = list_all is_some control && count_by is_yes control == 1
is_ready _ control = list_all is_yes control

-- whether they make it skipped
abbrev pub is_skipped : NodeKind → List (Option Flow) → Bool
is_skipped Start control = false
is_skipped _ control = list_all is_no control

-- a node that its control edges make ready still waits for a signal of each sync edge into it
abbrev pub judge_of : NodeKind → List (Option Flow) → List (Option Flow) → Verdict
judge_of kind control syncs =
    if is_ready kind control then (if list_all is_some syncs then verdict.Ready else verdict.Waiting)
    else (if is_skipped kind control then verdict.Skipped else verdict.Waiting)

-- spots of nodes: a node with none is NotActivated, and of several the first counts
abbrev pub Spots : Type 0
Spots = List Spot

-- the state and the choice of a node
abbrev pub spot : ℕ → State → Option ℕ → Spot
spot node state choice = record { node = node; state = state; choice = choice }

-- the spot of a node
abbrev pub spot_in : ℕ → Spots → Spot
spot_in node [] = spot node NotActivated None
spot_in node (s ∷ ss) = if s.node == node then s else spot_in node ss

-- the signal of an edge from another node
abbrev pub source_signal : Option Card → Spot → Option ℕ → Option Flow
source_signal None s label = None
source_signal (Some c) s label = signal_of c.kind s.state s.choice label

-- the signal of a control edge
abbrev pub signal_from : List Card → Spots → End → Option Flow
signal_from cards table e = source_signal (card_at e.node cards) (spot_in e.node table) e.label

-- the signal of a sync edge
abbrev pub sync_from : List Card → Spots → ℕ → Option Flow
sync_from cards table node = source_signal (card_at node cards) (spot_in node table) None

-- what the signals of its edges make of a node
abbrev pub verdict_at : List Card → Spots → Card → Verdict
verdict_at cards table c = judge_of c.kind (map (signal_from cards table) c.ins) (map (sync_from cards table) c.syncs_in)

-- the state of a node that was not begun
abbrev pub state_by : NodeKind → Verdict → State
state_by kind verdict.Waiting = NotActivated
state_by kind verdict.Ready = if worked_on kind then Activated else Completed
state_by kind verdict.Skipped = Skipped

-- whether an actor started or ended the node
abbrev pub is_begun : NodeKind → State → Bool
is_begun kind Running = true
is_begun kind Completed = worked_on kind
is_begun kind _ = false

-- the node rule: a node that was started or ended stays as it is
abbrev pub ruled : List Card → Spots → Card → Spot
ruled cards table c =
    if is_begun c.kind (spot_in c.node table).state then spot_in c.node table
    else spot c.node (state_by c.kind (verdict_at cards table c)) None

-- the node rule applied to all nodes at once, and that as many times as there are nodes
abbrev pub round : List Card → Spots → Spots
round cards table = map (ruled cards table) cards

-- the settled net
abbrev pub settle : List Card → Spots → Spots
settle cards = iterate (round cards) (length cards)

-- the spots of the cards' nodes, ascending by node
abbrev pub by_node : Spot → ℕ × ℕ
by_node s = (s.node, 0)

-- the marking of a net
abbrev pub marking_of : List Card → Spots → Spots
marking_of cards table = fold (λ m c. put_row by_node (spot_in c.node table) m) [] cards

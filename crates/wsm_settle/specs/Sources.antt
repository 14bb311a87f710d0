-- What is known of a node that edges leave.
use Rattle.std.specs.Prelude.{◌≡◌, ℕ, List, Option, Some, None}
use Rattle.wsm_marks.specs.Timed.{Timed, sig_of}
use Rattle.wsm_schema.specs.{declared.cards.Card.Card, declared.cards.NodeKind.NodeKind, declared.marks.Mark.Mark}
use Rattle.wsm_settle.specs.{Signals.signal_by, declared.sources.Source.Source}
use Rattle.wsm_walk.specs.Kept.{timed_of}

-- what an edge with that label signals from a node of that kind with that mark
abbrev pub signal_of : Option (NodeKind × Mark) → Option ℕ → Timed
signal_of None label = None
signal_of (Some k) label = sig_of k.0 (timed_of k.1) k.1.ended k.1.choice label

-- its edges signal what they do over these marks
abbrev pub IsSource : List Card → (ℕ → Mark) → Source → Type 0
IsSource cards mark s = (label : Option ℕ) → signal_of s.kept label ≡ signal_by cards mark label s.node

abbrev pub KnowsSource : List Card → (ℕ → Mark) → Option Source → Type 0
KnowsSource cards mark known = (s : Source) → known ≡ Some s → IsSource cards mark s

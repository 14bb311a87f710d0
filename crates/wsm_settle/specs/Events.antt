-- Changes that make the marks of a trail those of the trail with an event, for every trail that replays whole with that event; and what may be read for them.
use Rattle.std.specs.Prelude.{◌≡◌, ℕ, ◌+◌, ◌≤◌, true, List, [], ◌∷◌, ◌++◌, Option, Some}
use Rattle.wsm_lists.specs.{ByNumber.changed, Values.Written, declared.values.Value.Value}
use Rattle.wsm_schema.specs.{Flat.{FlatModel, card_at, cards_of, flat_of, loop_nodes}, Kinds.is_loop_end, Marks.marks_of, Rank.IsRank, Replay.{is_in_state, replay_of, whole}, Rules.{Spots, spot_in}, SchemaModel.SchemaModel, Trail.is_one_of}
use Rattle.wsm_schema.specs.{declared.cards.Card.Card, declared.marks.Mark.Mark}
use Rattle.wsm_schema.specs.declared.entries.Entry.TheVariants as entry
use Rattle.wsm_schema.specs.declared.states.State.TheVariants.{Running}
use Rattle.wsm_marks.specs.{Loops.cut_entries, Schemas.{HasCard, Regular}, Timed.Entries}
use Rattle.wsm_trail.specs.Withdrawn.{without_start}
use Rattle.wsm_walk.specs.{Current.Current, RankPlaces.{Handed, rank_place}, Spent.reach_size, Targets.leads_to}

-- the Start of a node
abbrev pub StartsRight : FlatModel → List (ℕ × Mark) → ℕ → ℕ → List (ℕ × Option Mark) → Type 0
StartsRight flat kept node p changes =
    (s : SchemaModel) (rank : List ℕ) (es : Entries) (user : ℕ) (reads : List (ℕ × Option Value)) (t : Spots) → flat ≡ flat_of s → Current s rank es p kept →
    replay_of (flat_of s) (es ++ (p, entry.Start node user reads) ∷ []) ≡ whole t →
    changed changes kept ≡ marks_of (flat_of s) (es ++ (p, entry.Start node user reads) ∷ [])

-- the End of a node
abbrev pub EndsRight : FlatModel → List ℕ → List (ℕ × Mark) → ℕ → ℕ → Option ℕ → List (ℕ × Option Mark) → Type 0
EndsRight flat rank kept node p choice changes =
    (s : SchemaModel) (es : Entries) (writes : Written) (t : Spots) → flat ≡ flat_of s → Current s rank es p kept →
    replay_of (flat_of s) (es ++ (p, entry.End node writes choice) ∷ []) ≡ whole t →
    changed changes kept ≡ marks_of (flat_of s) (es ++ (p, entry.End node writes choice) ∷ [])

-- a running node is given back
abbrev pub WithdrawsRight : List (ℕ × Mark) → ℕ → List (ℕ × Option Mark) → Type 0
WithdrawsRight kept node changes =
    (s : SchemaModel) (rank : List ℕ) (es : Entries) (p : ℕ) (c : Card) → (now : Current s rank es p kept) →
    card_at node (cards_of s) ≡ Some c → is_in_state (spot_in node now.marking).state Running ≡ true →
    changed changes kept ≡ marks_of (flat_of s) (without_start node es)

-- the trail that the cut by a loop leaves, with its repeat behind it
abbrev pub repeated_by : SchemaModel → ℕ → ℕ → Written → Entries → Entries
repeated_by s e p writes es = cut_entries (loop_nodes (cards_of s) e) es ++ (p, entry.Again e writes) ∷ []

-- the repeat of a loop whose end is running
abbrev pub RepeatsRight : FlatModel → List ℕ → List (ℕ × Mark) → ℕ → ℕ → List (ℕ × Option Mark) → Type 0
RepeatsRight flat rank kept e p changes =
    (s : SchemaModel) (es : Entries) (writes : Written) (l : ℕ) (c : Card) → flat ≡ flat_of s → (now : Current s rank es p kept) →
    card_at e (cards_of s) ≡ Some c → is_loop_end c.kind ≡ true → c.partner ≡ Some l → is_in_state (spot_in e now.marking).state Running ≡ true →
    changed changes kept ≡ marks_of (flat_of s) (repeated_by s e p writes es)

-- no more marks are read than a node reaches nodes, with the edges into these
abbrev pub ReachesFew : FlatModel → List ℕ → ℕ → ℕ → ℕ → Type 0
ReachesFew flat rank node reads reads' =
    (s : SchemaModel) → flat ≡ flat_of s → Regular s → IsRank (cards_of s) rank → HasCard (cards_of s) node → reads' ≤ reads + reach_size flat.cards rank node

-- or than the start of a loop reaches
abbrev pub RepeatsFew : FlatModel → List ℕ → ℕ → ℕ → ℕ → Type 0
RepeatsFew flat rank e reads reads' =
    (s : SchemaModel) (l : ℕ) (c : Card) → flat ≡ flat_of s → Regular s → IsRank (cards_of s) rank → card_at e (cards_of s) ≡ Some c → is_loop_end c.kind ≡ true → c.partner ≡ Some l →
    reads' ≤ reads + reach_size flat.cards rank l

-- the places of the nodes behind a node
abbrev pub BehindNode : FlatModel → List ℕ → ℕ → List ℕ → Type 0
BehindNode flat rank node places = (c : Card) → card_at node flat.cards ≡ Some c → is_one_of node rank ≡ true → Handed rank (leads_to c) (rank_place node rank + 1) [] places

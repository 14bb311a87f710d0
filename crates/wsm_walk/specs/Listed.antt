-- What a table of marks holds of a node.
use Rattle.std.specs.Prelude.{ℕ, List, Option, Some, None, if◌then◌else◌}
use Rattle.wsm_lists.specs.ByNumber.{item_after, item_at}
use Rattle.wsm_schema.specs.{Marks.says_something, declared.cards.Card.Card, declared.marks.Mark.Mark}
use Rattle.wsm_walk.specs.Kept.{mark_or}

-- a mark stands in the table where it says something
abbrev pub said : Mark → Option Mark
said m = if says_something m then Some m else None

-- of a node of the net
abbrev pub listed : Option Card → Mark → Option Mark
listed None m = None
listed (Some c) m = said m

-- the mark of a node, as changes have it, else as it is kept
abbrev pub seen : List (ℕ × Mark) → List (ℕ × Option Mark) → ℕ → Mark
seen kept changes n = mark_or (item_after (item_at n changes) (item_at n kept))
